use Rattle.std.proofs.Common.{◌≡◌, List, map}
use Rattle.std.specs.Prelude.{All}
use Rattle.flow_model.specs.Setup.{setup_view}
use Rattle.lane_core.specs.Lane.{LaneId}
use Rattle.flow_crew.specs.Sides.{HoldAtMost}
use Rattle.flow_crew.specs.Sorted.{AreAllMarked}
use Rattle.flow_crew.proofs.all_endpoints.AllEndpoints.make.Given as goal

-- the endpoints of the lanes so far are sorted, and their lanes are those of a list; they hold as
-- many items as was asked
abbrev pub invariant-loop-number : goal.invariant-loop-number
invariant-loop-number g l = record {
  sorted :
      (marks : List LaneId) × AreAllMarked (setup_view l.setup).job l.graph l.number marks l.workers.items
      (map g.L.Tx.Tx.state l.feeder.items);
  capacity : All (λ (end : g.row.L-Tx.Denot). (g.L.Tx.Tx.state end).lane.capacity ≡ l.cap) l.feeder.items;
  hold : HoldAtMost l.cap l.workers.items;
}
