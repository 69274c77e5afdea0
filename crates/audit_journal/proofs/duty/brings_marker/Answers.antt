use Rattle.std.proofs.Common.{◌∙◌, sym}
use Rattle.flow_model.specs.Setup.{setup_view}
use Rattle.audit_journal.proofs.LaneLemmas.{in_marked, marked_lane, same_covers}
use Rattle.audit_journal.proofs.duty.brings_marker.Goals as goal

pub returns-in-Some : goal.returns-in-Some
returns-in-Some c =
    let setup = setup_view c.args.who.setup.now in
    let w = c.args.who.number in
    let r = c.args.request in
    let n = c.args.lane in
    let here = c.in-Some.ensures.some in (
      λ t. marked_lane setup w r n c.in-Some.found here.0 here.1 (sym c.covers_edge.ensures ∙ t),
      λ m. c.covers_edge.ensures ∙ same_covers setup w r n c.in-Some.found here.0 m,
    )

pub returns-in-None : goal.returns-in-None
returns-in-None c =
    let setup = setup_view c.args.who.setup.now in (
      λ f. absurd (cc),
      λ m. let l = in_marked setup c.args.who.number c.args.request c.args.lane m in absurd (c.in-None.ensures.none l.0 (l.1, l.2)),
    )
