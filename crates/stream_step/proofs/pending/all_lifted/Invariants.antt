use Rattle.std.proofs.Common.{◌≡◌, map}
use Rattle.stream_step.specs.Pending.{lifted}
use Rattle.stream_step.proofs.pending.all_lifted.Given as goal

abbrev pub invariant-loop-request : goal.invariant-loop-request
invariant-loop-request l = l.all ≡ map (lifted l.fn.fed) l.yielded
