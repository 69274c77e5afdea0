use Rattle.std.proofs.Common.{◌+◌, ℕ, refl}
use Rattle.flow_model.proofs.TopologyLemmas.{lane_with, pushed-range}
use Rattle.flow_model.proofs.tables.push_lanes.Goals as goal

pub loop-place-preserved : goal.loop-place-preserved
loop-place-preserved c =
    pushed-range (λ (place : ℕ). lane_with c.args.edge c.args.sender (c.args.first + place)) c.args.all.now c.loop-place.all c.push.new.self c.loop-place.place
    (lane_with c.args.edge c.args.sender (c.args.first + c.loop-place.place)) c.loop-place.invariant c.in_ok-push.ensures.ok refl
