-- What is told of the workers of a part, which has no counts.
use Rattle.std.specs.Prelude.{◌≡◌, ◌≢◌, ◌<◌, ℕ, List, [], Some, length, slice_get}
use Rattle.tuple_trace.specs.declared.row.Row.{Row}
use Rattle.flow_model.specs.Begin.{Begin}
use Rattle.flow_model.specs.SetupView.{SetupView}
use Rattle.audit_laws.specs.declared.audit.AuditEntry.{AuditEntry}
use Rattle.audit_fault.specs.declared.fault.AuditFault.{AuditFault}
use Rattle.audit_fault.specs.declared.fault.AuditFault.TheVariants as fault
use Rattle.audit_laws.specs.Faults.{AreTrimmedFinished, IsFaultOfWorkers, Listed}
use Rattle.audit_laws.specs.Part.{AreRestorable}

-- No counts are told of the first `count` workers.
abbrev pub AreUntold : List Listed → ℕ → Type 0
AreUntold told count = (w : ℕ) → w < count → slice_get told w ≡ Some []

-- The first worker of which a count is told.
abbrev pub IsFirstTold : List Listed → AuditFault → Type 0
IsFirstTold told (fault.State w) =
    (w < length told) × (slice_get told w ≢ Some []) × AreUntold told w
IsFirstTold told other = ⊥

-- The fault is the first that the workers of a part have: of the law, then of a lane, then a count
-- that is told. Out of memory says nothing.
abbrev pub IsPartFaultOfWorkers :
    Begin → SetupView → List ℕ → List Row → List (List AuditEntry) → List Listed → AuditFault
    → Type 0
IsPartFaultOfWorkers begin setup order rows audit told (fault.State w) =
    AreTrimmedFinished begin setup rows audit × AreRestorable begin setup rows audit
    × IsFirstTold told (fault.State w)
IsPartFaultOfWorkers begin setup order rows audit told other =
    IsFaultOfWorkers begin setup order rows audit told other
