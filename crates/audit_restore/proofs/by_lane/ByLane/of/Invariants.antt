use Rattle.std.proofs.Common.{take}
use Rattle.audit_restore.specs.ByLane.{AreOnLanes}
use Rattle.audit_restore.proofs.by_lane.ByLane.of.Given as goal

abbrev pub invariant-loop-entry : goal.invariant-loop-entry
invariant-loop-entry l = AreOnLanes l.lanes (take l.entry-index l.journal) l.by_lane
