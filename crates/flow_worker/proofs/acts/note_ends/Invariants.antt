use Rattle.std.proofs.Common.{◌≡◌, ◌+◌, ◌≤◌, ◌++◌, take, drop, length}
use Rattle.flow_worker.specs.Steps.{all_emptied, ended_entries}
use Rattle.flow_worker.proofs.acts.note_ends.Given as goal

abbrev pub invariant-loop-lane : goal.invariant-loop-lane
invariant-loop-lane g l = record {
  ins : all_emptied l.initial.lane-items ≡ take l.lane-index l.lane-items ++ all_emptied (drop l.lane-index l.lane-items);
  journal : l.journal.items ++ ended_entries (drop l.lane-index l.lane-items) ≡ l.fn.journal.items ++ ended_entries l.initial.lane-items;
  memory : length l.journal.items + length l.lane-items ≤ l.journal.memory + l.lane-index;
}
