use Rattle.std.proofs.Common.{◌≡◌, ◌<◌, ◌≤◌, ◌++◌, length, true}
use Rattle.std.specs.Prelude.{◌↔◌}
use Rattle.std.specs.VecDeque.{deque_capacity}
use Rattle.flow_worker.proofs.lane_out.LaneOut.flush.Given as goal

abbrev pub invariant-loop-item : goal.invariant-loop-item
invariant-loop-item g l = record {
  lane : (g.L.Tx.Tx.state l.self-inside.end).lane ≡ l.fn.self.lane;
  number : (g.L.Tx.Tx.state l.self-inside.end).number ≡ l.fn.self.number;
  origin : (g.L.Tx.Tx.state l.self-inside.end).origin ≡ l.fn.self.origin;
  edge : l.self-inside.edge ≡ l.fn.self.edge;
  planned : (g.L.Tx.Tx.state l.self-inside.end).items ++ l.self-inside.waiting.items ≡ l.fn.self.sent ++ l.fn.self.waiting;
  full : l.fn.self.full ≤ (g.L.Tx.Tx.state l.self-inside.end).stalls;
  grew : length l.fn.self.sent ≤ length (g.L.Tx.Tx.state l.self-inside.end).items;
  memory : deque_capacity l.self-inside.waiting ≡ l.fn.self.memory;
  moved : l.moved ≡ true ↔ (length l.fn.self.sent < length (g.L.Tx.Tx.state l.self-inside.end).items);
}

abbrev pub decreases-loop-item : goal.decreases-loop-item
decreases-loop-item g l = length l.self-inside.waiting.items
