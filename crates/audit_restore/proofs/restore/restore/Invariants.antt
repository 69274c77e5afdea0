use Rattle.flow_model.specs.Setup.{setup_view}
use Rattle.audit_restore.specs.Restored.{AreRestored}
use Rattle.audit_restore.proofs.restore.restore.Given as goal

abbrev pub invariant-loop-worker : goal.invariant-loop-worker
invariant-loop-worker l =
    AreRestored l.start (setup_view l.setup) l.rows l.audit l.worker-items l.worker-index l.restored.journals l.restored.states l.standing
