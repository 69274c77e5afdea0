use Rattle.std.proofs.Common.{◌∙◌, sym}
use Rattle.flow_model.specs.Setup.{setup_view}
use Rattle.audit_laws.specs.Part.{uncounted}
use Rattle.audit_laws.proofs.PartLemmas.{length_uncounted}
use Rattle.audit_laws.proofs.VerdictLemmas.{told_lines}
use Rattle.audit_laws.proofs.part.parts_fit_their_lines.Goals as goal

pub returns : goal.returns
returns c begin rows refused text ran is =
    let e = told_lines (setup_view c.args.setup.now) refused (uncounted ran) is.setup_is is.run.one_journal_each (length_uncounted ran) in
    ((λ h. h ∙ sym e), (λ h. h ∙ e))
