use Rattle.std.proofs.Common.{◌≡◌, ◌+◌, ◌<◌, ◌++◌, take, drop, length}
use Rattle.flow_worker.specs.Steps.{emptied, marked_entries}
use Rattle.flow_worker.proofs.acts.note_markers.Given as goal

abbrev pub invariant-loop-i : goal.invariant-loop-i
invariant-loop-i g l = record {
  ins : emptied l.due.lanes 0 l.initial.ins ≡ take l.i l.ins ++ emptied l.due.lanes l.i (drop l.i l.ins);
  journal : l.journal.items ++ marked_entries l.due.lanes l.due.request l.i (drop l.i l.ins) ≡ l.fn.journal.items ++ marked_entries l.due.lanes l.due.request 0 l.initial.ins;
  memory : length l.journal.items + length l.ins < l.journal.memory + l.i;
}
