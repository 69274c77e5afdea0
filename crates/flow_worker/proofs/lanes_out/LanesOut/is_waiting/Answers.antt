use Rattle.std.proofs.Common.{◌≤◌, length, arith, sym}
use Rattle.flow_worker.proofs.OutMasks.{unmarked}
use Rattle.flow_worker.proofs.lanes_out.LanesOut.is_waiting.Goals as goal

pub returns-then-len-le-LANE_SET_BITS : goal.returns-then-len-le-LANE_SET_BITS
returns-then-len-le-LANE_SET_BITS g c =
    let few : length c.self.inside.lanes.items ≤ 128 = let a = c.len.ensures in let b = c.self.inside.lanes.ok.0 in let d = c.if-len-le-LANE_SET_BITS.true in omega (arith, a, b, d) in
    rw (← c.self.view_is) (sym (unmarked c.self.inside.waiting c.self.inside.lanes.items c.if-self-eq0.true few c.self.invariant.waiting_is))
