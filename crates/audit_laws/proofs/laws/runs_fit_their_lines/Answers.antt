use Rattle.std.proofs.Common.{◌∙◌, sym}
use Rattle.flow_model.specs.Setup.{setup_view}
use Rattle.audit_laws.proofs.VerdictLemmas.{fits_lines}
use Rattle.audit_laws.proofs.laws.runs_fit_their_lines.Goals as goal

pub returns : goal.returns
returns c begin rows refused text ran is =
    let e = fits_lines begin (setup_view c.args.setup.now) rows refused ran is in
    ((λ h. h ∙ sym e), (λ h. h ∙ e))
