use Rattle.std.proofs.Common.{◌≡◌, ◌≤◌, ◌+◌, ◌++◌, [], drop, length, map}
use Rattle.std.specs.Vec.{vec_capacity}
use Rattle.std.specs.Vec.Iter.{into_iter_items, into_iter_len}
use Rattle.flow_model.specs.Setup.{setup_view}
use Rattle.flow_worker.specs.Endpoints.{LaneOutIs}
use Rattle.flow_worker.specs.Pairs.{EachOne}
use Rattle.flow_worker.specs.Parts.{endpoint_out}
use Rattle.lane_core.specs.Lane.{EndpointIs}
use Rattle.flow_worker.specs.Worker.{IsOnLane}
use Rattle.flow_worker.proofs.parts.new_outs.Given as goal

-- the lanes so far, with the ends that are left, are those of all
abbrev pub invariant-loop-end : goal.invariant-loop-end
invariant-loop-end g l = record {
  may : (goal.iterator-loop-end g).can_next l.end-iterator;
  finite : (goal.iterator-loop-end g).is_finite l.end-iterator;
  counted : into_iter_len l.end-iterator ≡ length (into_iter_items l.end-iterator);
  room : length l.outs.items + length (into_iter_items l.end-iterator) ≤ vec_capacity l.outs;
  ends : map endpoint_out l.outs.items ++ map g.L.Tx.Tx.state (into_iter_items l.end-iterator)
      ≡ map g.L.Tx.Tx.state l.fn.ends.items;
  numbers : map (λ x. (g.L.Tx.Tx.state x).number) (into_iter_items l.end-iterator) ≡ drop (length l.outs.items) l.numbers;
  on_lanes : EachOne (λ (out : LaneOutIs). IsOnLane (setup_view l.setup).job out.number out.edge) l.outs.items;
  waiting : EachOne (λ (out : LaneOutIs). out.waiting ≡ []) l.outs.items;
}
