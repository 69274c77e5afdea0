-- How far a journal has come, as the law of journals has it.
use Rattle.std.specs.Prelude.{◌≡◌, ℕ, ⊤, List, [], ◌∷◌, Option, Some, None, slice_get}
use Rattle.jobs.specs.JobView.{JobView}
use Rattle.tuple_trace.specs.declared.row.Row.{Row}
use Rattle.flow_model.specs.Begin.{Begin}
use Rattle.flow_model.specs.Duties.{dues_after}
use Rattle.flow_model.specs.Lanes.{lanes}
use Rattle.flow_model.specs.Law.{Progress}
use Rattle.flow_model.specs.SetupView.{SetupView}
use Rattle.flow_model.specs.declared.topology.Lane.{Lane}
use Rattle.audit_laws.specs.declared.audit.AuditEntry.{AuditEntry}
use Rattle.audit_fault.specs.declared.fault.AuditFault.{AuditFault}
use Rattle.audit_fault.specs.declared.fault.AuditFault.TheVariants as fault
use Rattle.audit_laws.specs.Faults.{HasBadLaw}
use Rattle.audit_journal.specs.declared.course.Course.{Course}

-- The requests that are left at a node if this is the next one.
abbrev pub dues_from : SetupView → ℕ → Option ℕ → List ℕ
dues_from setup node None = []
dues_from setup node (Some request) = request ∷ dues_after setup request node

abbrev pub progress_of : SetupView → ℕ → Course → Progress
progress_of setup node course = record {
  dues = dues_from setup node course.due;
  marked = course.marked;
  ended = course.ended;
}

-- The fault is the least worker whose trimmed journal isn't finished, or out of memory.
abbrev pub IsFaultOfLaw :
    Begin → SetupView → List Row → List (List AuditEntry) → AuditFault → Type 0
IsFaultOfLaw begin setup rows audit (fault.Law w) = HasBadLaw begin setup rows audit w
IsFaultOfLaw begin setup rows audit fault.NoMemory = ⊤
IsFaultOfLaw begin setup rows audit other = ⊥

-- The lane has this number, and leads to this worker.
abbrev pub IsLaneInto : JobView → ℕ → ℕ → Lane → Type 0
IsLaneInto job worker number lane =
    (slice_get (lanes job) number ≡ Some lane) × (lane.receiver ≡ worker)
