use Rattle.std.proofs.Common.{All, Contains, take}
use Rattle.audit_journal.proofs.duty.has_all.Given as goal

abbrev pub invariant-loop-lane : goal.invariant-loop-lane
invariant-loop-lane l = All (Contains l.marks) (take l.lane-index l.lanes)
