use Rattle.std.proofs.Common.{◌≡◌, ◌++◌, drop}
use Rattle.savepoint_file.proofs.start.copies.Given as goal

abbrev pub invariant-loop-state : goal.invariant-loop-state
invariant-loop-state l = l.copies ++ drop l.state-index l.states ≡ l.states
