use Rattle.std.proofs.Common.{◌≡◌, [], replicate}
use Rattle.flow_replay.proofs.replaying.empty_lists.Given as goal

abbrev pub invariant-loop-lane : goal.invariant-loop-lane
invariant-loop-lane l = l.lists.items ≡ replicate l._lane []
