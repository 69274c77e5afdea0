use Rattle.std.proofs.Common.{◌≡◌, [], map, replicate}
use Rattle.audit_restore.proofs.standing.Standing.empty.Given as goal

abbrev pub invariant-loop-lane : goal.invariant-loop-lane
invariant-loop-lane l = map (λ queue. queue.items) l.lists.items ≡ replicate l._lane []
