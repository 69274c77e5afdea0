use Rattle.std.proofs.Common.{◌≡◌, ◌<◌, ℕ, Some, slice_get}
use Rattle.flow_model.specs.Setup.{setup_view}
use Rattle.flow_model.specs.SetupView.{Worker}
use Rattle.flow_model.specs.Workers.{workers_in}
use Rattle.audit_laws.specs.declared.audit.AuditEntry.{AuditEntry}
use Rattle.audit_laws.specs.Checked.{IsFinishedDraft}
use Rattle.audit_journal.proofs.law.check_law.Given as goal
use Rattle.std.proofs.Common.{List}

abbrev pub invariant-loop-worker : goal.invariant-loop-worker
invariant-loop-worker l =
    (v : ℕ) (p : Worker) (j : List AuditEntry) → v < l.worker → slice_get (workers_in (setup_view l.setup).job) v ≡ Some p →
    slice_get l.audit v ≡ Some j → IsFinishedDraft l.start (setup_view l.setup) l.rows p j
