use Rattle.std.proofs.Common.{◌≡◌, ◌≤◌, ◌+◌, ◌++◌, [], length, map}
use Rattle.std.specs.Vec.{vec_capacity}
use Rattle.std.specs.Vec.Iter.{into_iter_items, into_iter_len}
use Rattle.flow_worker.specs.Endpoints.{LaneOutIs}
use Rattle.flow_worker.specs.Pairs.{EachOne}
use Rattle.flow_worker.specs.Parts.{endpoint_out}
use Rattle.lane_core.specs.Lane.{EndpointIs}
use Rattle.flow_worker.proofs.parts.part_outs.Given as goal

-- the ends so far, with those of the lanes that are left, are the ends of all lanes
abbrev pub invariant-loop-lane : goal.invariant-loop-lane
invariant-loop-lane g l = record {
  may : (goal.iterator-loop-lane g).can_next l.lane-iterator;
  finite : (goal.iterator-loop-lane g).is_finite l.lane-iterator;
  counted : into_iter_len l.lane-iterator ≡ length (into_iter_items l.lane-iterator);
  room : length l.ends.items + length (into_iter_items l.lane-iterator) ≤ vec_capacity l.ends;
  done : EachOne (λ (out : LaneOutIs). out.waiting ≡ []) (into_iter_items l.lane-iterator);
  whole : map g.L.Tx.Tx.state l.ends.items ++ map endpoint_out (into_iter_items l.lane-iterator) ≡ map endpoint_out l.fn.outs.items;
}
