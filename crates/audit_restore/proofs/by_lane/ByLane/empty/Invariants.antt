use Rattle.std.proofs.Common.{◌≡◌, [], map, replicate}
use Rattle.audit_restore.specs.ByLane.{entries_of}
use Rattle.audit_restore.proofs.by_lane.ByLane.empty.Given as goal

abbrev pub invariant-loop-lane : goal.invariant-loop-lane
invariant-loop-lane l = map (λ list. entries_of list.items) l.lists.items ≡ replicate l._lane []
