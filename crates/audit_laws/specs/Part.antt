-- The audit of a part of a stream. It tells no counts: only that of the last part tells them.
use Rattle.std.specs.Prelude.{◌≡◌, ◌≢◌, ◌<◌, ℕ, List, [], Some, slice_get}
use Rattle.sink_journal.specs.declared.audit.Noted.{Noted}
use Rattle.sink_journal.specs.declared.journal.Entry.{Entry}
use Rattle.tuple_trace.specs.declared.row.Row.{Row}
use Rattle.flow_model.specs.Begin.{Begin, at_first}
use Rattle.flow_model.specs.Run.{Ran}
use Rattle.flow_model.specs.SetupView.{SetupView, Worker}
use Rattle.flow_model.specs.Workers.{workers_in}
use Rattle.audit_laws.specs.declared.audit.AuditEntry.{AuditEntry}
use Rattle.audit_laws.specs.declared.audit.Line.{Line}
use Rattle.audit_fault.specs.declared.fault.AuditFault.{AuditFault}
use Rattle.audit_fault.specs.declared.fault.AuditFault.TheVariants as fault
use Rattle.audit_laws.specs.Delivered.{feed_of}
use Rattle.audit_laws.specs.Faults.{AreTrimmedFinished, IsRestored}
use Rattle.audit_laws.specs.Lines.{counts_in, feeds_in, journal_in, refusals_in}
use Rattle.audit_laws.specs.Verdict.{AreInShape, IsFirstFault, by_worker}

-- The record without counts.
abbrev pub uncounted : Ran → Ran
uncounted ran = record ran { states = (at_first ran.setup).states }

-- All journals can be restored. So no lane has a fault.
pub record AreRestorable (begin : Begin) (setup : SetupView) (rows : List Row)
    (audit : List (List AuditEntry)) : Type 0 where
  pub journals : List (List Entry)
  pub restored :
      (w : ℕ) (who : Worker) → slice_get (workers_in setup.job) w ≡ Some who →
      IsRestored begin setup rows audit journals w

-- This worker is the first of which the lines tell a count.
abbrev pub IsFirstCounted : List Line → ℕ → Type 0
IsFirstCounted lines w = (counts_in lines w ≢ []) × ((v : ℕ) → v < w → counts_in lines v ≡ [])

-- The fault is the first that these records have as the audit of a part, in the order of the codes.
-- It is that of any audit, but for the counts: no count may be told.
abbrev pub IsPartFaultOf :
    Begin → SetupView → List ℕ → List Noted → List Row → List (List (List ℕ)) → AuditFault
    → Type 0
IsPartFaultOf begin setup order refused rows records (fault.State w) =
    (lines : List Line) × AreInShape setup.job records lines × (refusals_in lines ≡ refused)
    × (feeds_in lines ≡ feed_of begin setup rows)
    × AreTrimmedFinished begin setup rows (by_worker setup (journal_in lines))
    × AreRestorable begin setup rows (by_worker setup (journal_in lines))
    × IsFirstCounted lines w
IsPartFaultOf begin setup order refused rows records other =
    IsFirstFault begin setup order refused rows records other
