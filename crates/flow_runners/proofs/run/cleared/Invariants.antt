use Rattle.std.proofs.Common.{◌≡◌, ◌+◌, vec_len}
use Rattle.flow_runners.proofs.run.cleared.Given as goal

abbrev pub invariant-loop : goal.invariant-loop
invariant-loop l = vec_len l.words + 1 ≡ l.counter
