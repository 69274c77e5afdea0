use Rattle.std.proofs.Common.{◌≡◌, take}
use Rattle.audit_laws.specs.Restoring.{restored}
use Rattle.audit_restore.specs.Standing.{HasTakenAll, left_on}
use Rattle.audit_restore.proofs.taking.take_all.Given as goal

abbrev pub invariant-loop-entry : goal.invariant-loop-entry
invariant-loop-entry l = record {
  made : l.made ≡ restored (left_on l.fn.standing) (take l.entry-index l.journal);
  left : HasTakenAll (take l.entry-index l.journal) l.fn.standing l.standing;
}
