use Rattle.std.proofs.Common.{◌∙◌, ap, arith, get_or, map, refl, sym}
use Rattle.flow_model.specs.Setup.{setup_view}
use Rattle.audit_laws.specs.Faults.{seen}
use Rattle.audit_restore.proofs.LaneLemmas.{agree_all, agree_next, bad_lane, lane_within}
use Rattle.audit_restore.proofs.lanes.check_lanes.Goals as goal

pub on-requires : goal.on-requires
on-requires c =
    let lt = lane_within (setup_view c.args.who.setup.now) c.args.who.number c.lanes_in-lane-items.result.now c.lanes_in-lane-items.ensures c.loop-lane.lane-index 0 c.loop-lane-test.true in
    omega (arith, lt, c.requires)

pub on-requires-in-loop-lane : goal.on-requires-in-loop-lane
on-requires-in-loop-lane c =
    let lt = lane_within (setup_view c.args.who.setup.now) c.args.who.number c.lanes_in-lane-items.result.now c.lanes_in-lane-items.ensures c.loop-lane.lane-index 0 c.loop-lane-test.true in
    let long = c.in_ok-entries.ensures.long in
    omega (arith, lt, long, c.len.ensures, c.requires)

pub returns-then-not-are_items-clause-fault : goal.returns-then-not-are_items-clause-fault
returns-then-not-are_items-clause-fault c =
    let setup = setup_view c.args.who.setup.now in
    let numbers = c.lanes_in-lane-items.result.now in
    let i = c.loop-lane.lane-index in
    let n = get_or numbers i 0 in
    let lt = lane_within setup c.args.who.number numbers c.lanes_in-lane-items.ensures i 0 c.loop-lane-test.true in
    let each = c.on-in-loop-lane.ensures ∙ c.in_ok-entries.ensures.each n (omega (arith, lt, c.len.ensures, c.requires)) in
    bad_lane setup c.args.who.number numbers c.lanes_in-lane-items.ensures c.args.standing.now c.args.journal.now i 0 c.loop-lane.invariant c.loop-lane-test.true
    (λ agree. let f = c.if-not-are_items.ensures.1 (ap (map (seen n)) c.on.ensures ∙ (agree ∙ sym each)) in absurd (cc))

pub loop-lane-preserved : goal.loop-lane-preserved
loop-lane-preserved c =
    let setup = setup_view c.args.who.setup.now in
    let numbers = c.lanes_in-lane-items.result.now in
    let i = c.loop-lane.lane-index in
    let n = get_or numbers i 0 in
    let lt = lane_within setup c.args.who.number numbers c.lanes_in-lane-items.ensures i 0 c.loop-lane-test.true in
    let each = c.on-in-loop-lane.ensures ∙ c.in_ok-entries.ensures.each n (omega (arith, lt, c.len.ensures, c.requires)) in
    agree_next setup c.args.standing.now c.args.journal.now numbers i 0 c.loop-lane.invariant c.loop-lane-test.true
    (ap (map (seen n)) (sym c.on.ensures) ∙ (c.if-not-are_items.ensures.0 refl ∙ each))

pub returns-clause-ok : goal.returns-clause-ok
returns-clause-ok c =
    agree_all (setup_view c.args.who.setup.now) c.args.who.number c.lanes_in-lane-items.result.now c.lanes_in-lane-items.ensures c.args.standing.now c.args.journal.now c.loop-lane.lane-index c.loop-lane.invariant
    c.loop-lane-test.false
