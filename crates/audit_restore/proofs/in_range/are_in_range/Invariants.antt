use Rattle.std.specs.FinMap.{entries}
use Rattle.audit_laws.specs.Range.{AreInRange}
use Rattle.audit_restore.proofs.in_range.are_in_range.Given as goal

-- the counts are in range if those that are left are
abbrev pub invariant-loop-key : goal.invariant-loop-key
invariant-loop-key l = AreInRange l._key-iterator → AreInRange (entries l.state)
