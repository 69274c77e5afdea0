use Rattle.std.proofs.Common.{All, take}
use Rattle.std.specs.FinMap.{entries}
use Rattle.keyed_state.specs.Counts.{Counts}
use Rattle.audit_laws.specs.Range.{AreInRange}
use Rattle.audit_restore.proofs.in_range.counts_are_in_range.Given as goal

abbrev pub invariant-loop-state : goal.invariant-loop-state
invariant-loop-state l =
    All (λ (counts : Counts). AreInRange (entries counts)) (take l.state-index l.state-items)
