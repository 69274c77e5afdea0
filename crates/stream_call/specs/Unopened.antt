-- Why a stream isn't opened, and what that leaves of its files.
use Rattle.std.specs.Prelude.{◌≡◌, ◌≢◌, ◌⊎◌, ◌<◌, ◌≤◌, ◌+◌, ℕ, List, IfSome, Err, Option}
use Rattle.std.specs.Prelude.{Some, length, take, true}
use Rattle.std.specs.Str.{bytes_eq}
use Rattle.job_file.specs.RequestFile.{requests_up_to}
use Rattle.job_file.specs.declared.fault.ReqFileFault.TheVariants as requests
use Rattle.jobs.specs.JobView.{JobView}
use Rattle.jobs.specs.Nodes.{IsSourceOf}
use Rattle.payments.specs.Causes.{Faults}
use Rattle.payments.specs.Files.{Files, told_bytes, with_bytes}
use Rattle.payments.specs.World.{ShelfState}
use Rattle.payments.specs.declared.read.PFault.TheVariants as payments
use Rattle.versions.specs.Judged.{judged_within}
use Rattle.versions.specs.declared.limits.TheConstants.{MAX_STREAM_REQUESTS}
use Rattle.versions.specs.declared.request.Request.{Request}
use Rattle.fries_lines.specs.declared.fault.Fault.{Fault}
use Rattle.fries_lines.specs.declared.fault.Fault.TheVariants as fault
use Rattle.fries_lines.specs.declared.fault.FileIs.{FileIs}
use Rattle.fries_lines.specs.declared.fault.FileIs.TheVariants as file
use Rattle.fries_steps.specs.Reading.{HasReadFile, IsJobOf, IsNoJob, IsUnread}
use Rattle.stream_rows.specs.declared.limits.TheConstants.{MAX_ROWS}
use Rattle.stream_save.specs.StreamReading.{stream_save_of}
use Rattle.stream_save.specs.StreamText.{StreamSave}
use Rattle.stream_save.specs.declared.fault.StreamSaveFault.{StreamSaveFault}
use Rattle.stream_save.specs.declared.fault.StreamSaveFault.TheVariants as save
use Rattle.stream_intake.specs.Intake.{IsMaskOfNodes}
use Rattle.stream_run.specs.Unwritten.{IsOfFile, IsUnwritten}
use Rattle.fries_words.specs.declared.stream.StreamFiles.{StreamFiles}
use Rattle.stream_call.specs.Opened.{AreStreamRequestsOf, IsCutTo, IsStreamSaveOf, Resume, names_of}
use Rattle.stream_call.specs.Opened.{resume_of}
use Rattle.stream_call.specs.declared.fault.StreamFault.{StreamFault}
use Rattle.stream_call.specs.declared.fault.StreamFault.TheVariants as stream

-- ---- what the files hold

-- the bytes are no requests of a stream of the job, for this fault
abbrev pub RefusesStreamRequests : JobView → Fault → List ℕ → Type 0
RefusesStreamRequests job (fault.Requests code) bytes = (code ≢ requests.NoMemory)
    × (requests_up_to MAX_STREAM_REQUESTS job bytes ≡ Err code)
RefusesStreamRequests job _ bytes = ⊥

-- why the file gives no requests of a stream of the job
abbrev pub AreNoStreamRequests :
    Option Files → List ℕ → JobView → Faults → Faults → Fault → Type 0
AreNoStreamRequests files name job old new why =
    IsUnread file.Requests (RefusesStreamRequests job) files name old new why

-- no row can enter the job
abbrev pub HasNoSource : JobView → Type 0
HasNoSource job = (node : ℕ) → IsSourceOf job node → ⊥

-- why the file gives no savepoint of a stream of the job
abbrev pub IsNoStreamSave :
    Option Files → List ℕ → JobView → Faults → Faults → StreamFault → Type 0
IsNoStreamSave files name job old new (stream.Call why) =
    IsUnread file.Save (λ why bytes. ⊥) files name old new why
IsNoStreamSave files name job old new (stream.Save why) = (why ≢ save.NoMemory)
    × HasReadFile file.Save (λ bytes. stream_save_of job bytes ≡ Err why) files name × (new ≡ old)
IsNoStreamSave files name job old new (stream.Ahead row) = ⊥

-- The savepoint turned more of the requests that it had read than are accepted with this mask of
-- the nodes that may be splits. The fault has the number of the first of these.
abbrev pub TurnedTooMany : ℕ → JobView → List Request → StreamSave → StreamSaveFault → Type 0
TurnedTooMany splits job requests saved why =
    (length (judged_within (Some splits) job (take saved.read requests)).accepted
    < saved.start.turned)
    × (why ≡ save.Count
    (length (judged_within (Some splits) job (take saved.read requests)).accepted + 1))

-- why the input or the requests don't fit the savepoint
abbrev pub Misfits : JobView → List Request → ℕ → StreamSave → StreamFault → Type 0
Misfits job requests left_out saved (stream.Call why) = ⊥
Misfits job requests left_out saved (stream.Save why) =
    (splits : ℕ) → IsMaskOfNodes job.nodes splits → TurnedTooMany splits job requests saved why
Misfits job requests left_out saved (stream.Ahead row) = (row ≡ saved.start.row)
    × ((row < left_out) ⊎ (MAX_ROWS ≤ row))

-- Why the files that are read tell no stream that can be run.
pub data TellNoStream (asked : StreamFiles) (files : Option Files) (old new : Faults)
    : StreamFault → Type 0 where
  -- the alerts and the audit have one name
  OneName : bytes_eq asked.alerts asked.audit ≡ true
      → TellNoStream asked files old new (stream.Call fault.Usage)
  NoJob : (why : Fault) → IsNoJob files asked.plan.job old new why
      → TellNoStream asked files old new (stream.Call why)
  NoRequests : (job : JobView) (why : Fault) → IsJobOf files asked.plan.job job
      → AreNoStreamRequests files asked.plan.requests job old new why
      → TellNoStream asked files old new (stream.Call why)
  -- the fault is that of any first row
  NoSource : (job : JobView) → IsJobOf files asked.plan.job job → HasNoSource job
      → TellNoStream asked files old new (stream.Call (fault.Payments (payments.Source 1)))
  NoSave : (job : JobView) (resume : Resume) (why : StreamFault)
      → IsJobOf files asked.plan.job job → resume_of asked.saving ≡ Some resume
      → IsNoStreamSave files resume.save job old new why → TellNoStream asked files old new why
  NoFit : (job : JobView) (requests : List Request) (resume : Resume) (saved : StreamSave)
      (why : StreamFault) → IsJobOf files asked.plan.job job
      → AreStreamRequestsOf files asked.plan.requests job requests
      → resume_of asked.saving ≡ Some resume → IsStreamSaveOf files resume.save job saved
      → Misfits job requests resume.left_out saved why → TellNoStream asked files old new why
  NoMemory : new ≡ old → TellNoStream asked files old new (stream.Call fault.NoMemory)

-- ---- the files that are written

-- why a file isn't cut: it is shorter, a write to it failed, or memory ran out
abbrev pub StaysUncut : FileIs → List ℕ → (StreamFault → Type 0) → Faults → Faults → StreamFault
    → Type 0
StaysUncut is name Short old new why = Short why
    ⊎ (of : Fault) × (why ≡ stream.Call of)
    × (IsOfFile is name old new of ⊎ (of ≡ fault.NoMemory) × (new ≡ old))

-- the file has fewer bytes than this, and that is the fault
abbrev pub IsShorter : Option Files → List ℕ → ℕ → StreamSaveFault → StreamFault → Type 0
IsShorter files name size short why = (why ≡ stream.Save short)
    × IfSome (told_bytes files name) (λ told. length told < size)

-- only the alerts were made or cut, or nothing was
pub data HasOnlyAlerts (asked : StreamFiles) (before after : Option Files) : Type 0 where
  Nothing : after ≡ before → HasOnlyAlerts asked before after
  Made : (text : List ℕ) → after ≡ with_bytes before asked.alerts text
      → HasOnlyAlerts asked before after
  Cut : (size : ℕ) → IsCutTo asked.alerts size before after → HasOnlyAlerts asked before after

-- Why the files weren't made, or not cut to the lengths in the savepoint.
pub data AreUnmade (asked : StreamFiles) (files : Option Files) (old new : Faults)
    : StreamFault → Type 0 where
  Unwritten : (why : Fault) → IsUnwritten (names_of asked) old new why
      → AreUnmade asked files old new (stream.Call why)
  ShortAlerts : (size : ℕ)
      → IfSome (told_bytes files asked.alerts) (λ told. length told < size)
      → AreUnmade asked files old new (stream.Save (save.Alerts size))
  ShortAudit : (size : ℕ) → IfSome (told_bytes files asked.audit) (λ told. length told < size)
      → AreUnmade asked files old new (stream.Save (save.Audit size))

-- Why a stream isn't opened. If that is for what is read, no file has changed.
abbrev pub IsUnopened : StreamFiles → ShelfState → ShelfState → StreamFault → Type 0
IsUnopened asked old new why =
    TellNoStream asked old.files old.faults new.faults why × (new.files ≡ old.files)
    ⊎ AreUnmade asked new.files old.faults new.faults why
    × HasOnlyAlerts asked old.files new.files
