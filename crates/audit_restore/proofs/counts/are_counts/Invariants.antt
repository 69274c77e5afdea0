use Rattle.std.specs.FinMap.{entries}
use Rattle.audit_restore.proofs.CountLemmas.{AreFirst}
use Rattle.audit_restore.proofs.counts.are_counts.Given as goal

abbrev pub invariant-loop-key : goal.invariant-loop-key
invariant-loop-key l = AreFirst l.told (entries l.state) l.key-iterator l.place
