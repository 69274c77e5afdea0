-- What is wrong with a text that is the audit of no run: the first code that holds.
use Rattle.std.specs.Prelude.{◌≡◌, ◌≢◌, ◌≤◌, ◌+◌, ◌⊎◌, ⊤, ℕ, All, List, ◌∷◌, ◌++◌, length, map}
use Rattle.std.specs.Prelude.{slice_get, take}
use Rattle.jobs.specs.JobView.{JobView}
use Rattle.sink_journal.specs.Audit.{audit_header}
use Rattle.sink_journal.specs.declared.audit.Noted.{Noted}
use Rattle.tuple_trace.specs.declared.row.Row.{Row}
use Rattle.flow_model.specs.Begin.{Begin}
use Rattle.flow_model.specs.SetupView.{SetupView}
use Rattle.flow_model.specs.Duties.{numbers_from}
use Rattle.flow_model.specs.Workers.{workers_in}
use Rattle.audit_laws.specs.declared.audit.Line.{Line}
use Rattle.audit_fault.specs.declared.fault.AuditFault.{AuditFault}
use Rattle.audit_fault.specs.declared.fault.AuditFault.TheVariants as fault
use Rattle.audit_laws.specs.Delivered.{feed_of}
use Rattle.audit_laws.specs.Faults.{IsFaultOfWorkers}
use Rattle.audit_laws.specs.Lines.{IsLawfulLine, StandInOrder, counts_in, feeds_in, group_of}
use Rattle.audit_laws.specs.Lines.{journal_in, line_fields, refusals_in}
use Rattle.audit_laws.specs.Names.{named_workers}

-- The fields of lines of this job.
abbrev pub fields_of : JobView → List Line → List (List (List ℕ))
fields_of job lines = map (line_fields (named_workers job.nodes)) lines

-- The records are in shape, and these are their lines.
pub record AreInShape (job : JobView) (records : List (List (List ℕ)))
    (lines : List Line) : Type 0 where
  pub fields : records ≡ audit_header ∷ fields_of job lines
  pub each : All (IsLawfulLine job) lines
  pub ordered : StandInOrder lines

-- The first record isn't the header, or there is no record.
abbrev pub HasNoHeader : List (List (List ℕ)) → Type 0
HasNoHeader records = (later : List (List (List ℕ))) → records ≡ audit_header ∷ later → ⊥

-- A record has the form of no line that may stand here. A line may stand here if its group doesn't
-- come before that of a record above.
abbrev pub IsMisshapen : JobView → List Line → List (List ℕ) → Type 0
IsMisshapen job above fields =
    (line : Line) → IsLawfulLine job line → fields ≡ line_fields (named_workers job.nodes) line →
    All (λ earlier. group_of earlier ≤ group_of line) above → ⊥

-- The record at this place is the first that breaks a rule.
pub record HasBadShape (job : JobView) (records : List (List (List ℕ))) (i : ℕ) : Type 0 where
  pub above : List Line
  pub here : List (List ℕ)
  pub later : List (List (List ℕ))
  pub fields : records ≡ audit_header ∷ (fields_of job above ++ here ∷ later)
  pub place : i ≡ 1 + length above
  pub each : All (IsLawfulLine job) above
  pub ordered : StandInOrder above
  pub misshapen : IsMisshapen job above here

-- Two lists differ first at this place. One of them may be at its end there.
abbrev pub DifferFirst : {A : Type 0} → List A → List A → ℕ → Type 0
DifferFirst xs ys k = (take k xs ≡ take k ys) × (slice_get xs k ≢ slice_get ys k)

-- What each worker has, in the order of their numbers.
abbrev pub by_worker : {A : Type 0} → SetupView → (ℕ → A) → List A
by_worker setup f = map f (numbers_from 0 (length (workers_in setup.job)))

-- The fault is the first that these records have, in the order of the codes. Out of memory is
-- always allowed.
abbrev pub IsFirstFault :
    Begin → SetupView → List ℕ → List Noted → List Row → List (List (List ℕ)) → AuditFault
    → Type 0
IsFirstFault begin setup order refused rows records (fault.Shape i) =
    ((i ≡ 0) × HasNoHeader records) ⊎ HasBadShape setup.job records i
IsFirstFault begin setup order refused rows records (fault.Refused i) =
    (lines : List Line) × (k : ℕ) × AreInShape setup.job records lines × (i ≡ 1 + k)
    × DifferFirst (refusals_in lines) refused k
IsFirstFault begin setup order refused rows records (fault.Feed i) =
    (lines : List Line) × (k : ℕ) × AreInShape setup.job records lines
    × (refusals_in lines ≡ refused) × (i ≡ 1 + length refused + k)
    × DifferFirst (feeds_in lines) (feed_of begin setup rows) k
IsFirstFault begin setup order refused rows records fault.NoMemory = ⊤
IsFirstFault begin setup order refused rows records other =
    (lines : List Line) × AreInShape setup.job records lines × (refusals_in lines ≡ refused)
    × (feeds_in lines ≡ feed_of begin setup rows)
    × IsFaultOfWorkers begin setup order rows (by_worker setup (journal_in lines))
    (by_worker setup (counts_in lines)) other
