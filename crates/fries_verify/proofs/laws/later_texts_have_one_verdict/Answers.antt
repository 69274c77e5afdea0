use Rattle.std.proofs.Common.{List, map, subst}
use Rattle.std.specs.Prelude.{All}
use Rattle.audit_fault.specs.Noting.{IsNoted}
use Rattle.fries_lines.specs.Lines.{noted}
use Rattle.versions.specs.declared.in_order.Refused.{Refused}
use Rattle.fries_verify.specs.Audits.{later_subject}
use Rattle.fries_verify.proofs.AuditLemmas.{all_noted, one_verdict}
use Rattle.fries_verify.proofs.laws.later_texts_have_one_verdict.Goals as goal

pub returns : goal.returns
returns c =
    let setup = c.args.setup.now in
    let rows = c.args.rows.now in
    let begin = c.args.start.now in
    let refused = map noted setup.judged.refused in
    let all : All IsNoted refused =
    all_noted setup.judged.refused
    (subst (λ (l : List Refused). All (λ (r : Refused). IsNoted (noted r)) l) c.as_slice.ensures
    c.refused_are_noted.ensures) in
    one_verdict (later_subject begin setup rows)
    (λ ran text code audited some.
    c.texts_of_runs_have_no_fault.ensures begin refused text ran code
    c.counts_are_in_range.ensures all audited.run audited.fits some)
    (λ text f g a b x y. c.texts_have_one_fault.ensures begin rows refused text f g a b x y)
