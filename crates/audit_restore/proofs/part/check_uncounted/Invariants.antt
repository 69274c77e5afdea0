use Rattle.audit_restore.specs.Untold.{AreUntold}
use Rattle.audit_restore.proofs.part.check_uncounted.Given as goal

abbrev pub invariant-loop-worker : goal.invariant-loop-worker
invariant-loop-worker l = AreUntold l.told l.worker
