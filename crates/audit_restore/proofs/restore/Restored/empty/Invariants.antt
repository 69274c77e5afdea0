use Rattle.std.proofs.Common.{◌≡◌, length}
use Rattle.audit_restore.proofs.restore.Restored.empty.Given as goal

abbrev pub invariant-loop-worker : goal.invariant-loop-worker
invariant-loop-worker l = record {
  journals : length l.journals ≡ l._worker;
  states : length l.states ≡ l._worker;
}
