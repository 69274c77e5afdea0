use Rattle.std.proofs.Common.{◌≡◌, ◌<◌, ◌≤◌, ℕ, Some, slice_get}
use Rattle.std.specs.Prelude.{IsTrue}
use Rattle.audit_stream.specs.Sorting.{SpelledWorker, is_spelled}
use Rattle.audit_stream.proofs.workers.search.Given as goal

abbrev pub invariant-loop-number : goal.invariant-loop-number
invariant-loop-number l =
    (k : ℕ) (worker : SpelledWorker) → l.from ≤ k → k < l.number → slice_get l.workers k ≡ Some worker → ¬ IsTrue (is_spelled l.node l.place worker)
