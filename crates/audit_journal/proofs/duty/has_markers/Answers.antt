use Rattle.std.proofs.Common.{refl}
use Rattle.flow_model.specs.Lanes.{marked_lanes}
use Rattle.flow_model.specs.Setup.{setup_view}
use Rattle.audit_journal.proofs.LaneLemmas.{at_lane, marked_more, marked_there}
use Rattle.audit_journal.proofs.duty.has_markers.Goals.{else-brings_marker-via-then-brings_marker+else-not-has, else-brings_marker-via-else-brings_marker}
use Rattle.audit_journal.proofs.duty.has_markers.Goals as goal

pub returns-then-not-has : goal.returns-then-not-has
returns-then-not-has c =
    let lanes = marked_lanes (setup_view c.args.who.setup.now) c.args.who.number c.args.request in
    (λ f. absurd (cc), λ all. c.if-not-has.ensures.1 (at_lane c.args.marks.now lanes _ all (c.if-brings_marker.ensures.0 refl)))

pub loop-lane-preserved : goal.loop-lane-preserved
loop-lane-preserved c =
    let setup = setup_view c.args.who.setup.now in
    let w = c.args.who.number in
    let r = c.args.request in
    let lanes = c.lanes_in-lane-items.result.now in
    let i = c.loop-lane.lane-index in
    elim c.else-brings_marker.branch [
      | else-brings_marker-via-then-brings_marker+else-not-has b ↦ marked_more setup w r c.args.marks.now lanes i _ c.loop-lane.invariant c.loop-lane-test.true (λ marked. b.if-not-has.ensures.0 refl)
      | else-brings_marker-via-else-brings_marker b ↦ marked_more setup w r c.args.marks.now lanes i _ c.loop-lane.invariant c.loop-lane-test.true (λ marked. let f = b.if-brings_marker.ensures.1 marked in absurd (cc))
    ]

pub returns : goal.returns
returns c = (
  λ t. marked_there (setup_view c.args.who.setup.now) c.args.who.number c.args.request c.args.marks.now c.lanes_in-lane-items.result.now c.loop-lane.lane-index c.loop-lane.invariant
      c.loop-lane-test.false c.lanes_in-lane-items.ensures,
  λ all. refl,
)
