use Rattle.std.proofs.Common.{◌≡◌, ◌≤◌, ◌+◌, ◌++◌, drop, length, map}
use Rattle.std.specs.Vec.{vec_capacity}
use Rattle.std.specs.Vec.Iter.{into_iter_items, into_iter_len}
use Rattle.marker_align.specs.declared.held.Hand.TheVariants.{Empty}
use Rattle.flow_model.specs.Setup.{setup_view}
use Rattle.flow_worker.specs.Endpoints.{LaneInIs}
use Rattle.flow_worker.specs.Pairs.{EachOne}
use Rattle.flow_worker.specs.Parts.{endpoint_in}
use Rattle.lane_core.specs.Lane.{EndpointIs}
use Rattle.flow_worker.specs.Worker.{IsOnLane}
use Rattle.flow_worker.proofs.parts.new_ins.Given as goal

-- the lanes so far, with the ends that are left, are those of all
abbrev pub invariant-loop-end : goal.invariant-loop-end
invariant-loop-end g l = record {
  may : (goal.iterator-loop-end g).can_next l.end-iterator;
  finite : (goal.iterator-loop-end g).is_finite l.end-iterator;
  counted : into_iter_len l.end-iterator ≡ length (into_iter_items l.end-iterator);
  room : length l.ins.items + length (into_iter_items l.end-iterator) ≤ vec_capacity l.ins;
  ends : map endpoint_in l.ins.items ++ map g.L.Rx.Rx.state (into_iter_items l.end-iterator)
      ≡ map g.L.Rx.Rx.state l.fn.ends.items;
  numbers : map (λ x. (g.L.Rx.Rx.state x).number) (into_iter_items l.end-iterator) ≡ drop (length l.ins.items) l.numbers;
  on_lanes : EachOne (λ (a : LaneInIs). IsOnLane (setup_view l.setup).job a.number a.edge) l.ins.items;
  hands : EachOne (λ (a : LaneInIs). a.hand ≡ Empty) l.ins.items;
}
