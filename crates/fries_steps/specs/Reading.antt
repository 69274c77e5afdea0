-- What a call reads of its files, and why it doesn't.
use Rattle.std.specs.Prelude.{◌≡◌, ◌≢◌, ◌⊎◌, ◌<◌, ◌≤◌, ℕ, List, Option, Some, Ok, Err, IfSome}
use Rattle.std.specs.Prelude.{length}
use Rattle.jobs.specs.JobView.{JobView}
use Rattle.job_file.specs.Job.{IsFaultIn, IsJobIn}
use Rattle.job_file.specs.RequestFile.{requests_of}
use Rattle.job_file.specs.declared.fault.JobFault.TheVariants as job
use Rattle.job_file.specs.declared.fault.ReqFileFault.TheVariants as requests
use Rattle.payments.specs.Causes.{Faults, ReadFailed}
use Rattle.payments.specs.Files.{Files, told_bytes}
use Rattle.payments.specs.Reading.{rows_of}
use Rattle.payments.specs.declared.read.PFault.TheVariants as rows
use Rattle.tuple_trace.specs.declared.row.Row.{Row}
use Rattle.versions.specs.declared.request.Request.{Request}
use Rattle.flow_model.specs.Begin.{Begin}
use Rattle.flow_model.specs.SetupView.{SetupView}
use Rattle.savepoint.specs.SaveReading.{save_of}
use Rattle.savepoint.specs.declared.fault.SaveFault.TheVariants as save
use Rattle.fries_lines.specs.Faults.{limit_of}
use Rattle.payments.specs.World.{World}
use Rattle.fries_steps.specs.Effects.{IsExcused}
use Rattle.fries_lines.specs.declared.fault.Fault.{Fault}
use Rattle.fries_lines.specs.declared.fault.Fault.TheVariants as fault
use Rattle.fries_lines.specs.declared.fault.FileIs.{FileIs}
use Rattle.fries_lines.specs.declared.fault.FileIs.TheVariants as file

-- ---- what is read

-- the bytes are those of the file, where it is told, and aren't more than are read
pub record IsRead (is : FileIs) (files : Option Files) (name bytes : List ℕ) : Type 0 where
  pub told : IfSome (told_bytes files name) (λ told. bytes ≡ told)
  pub short : length bytes ≤ limit_of is

-- the bytes that were read of the file are so
pub record HasReadFile (is : FileIs) (P : List ℕ → Type 0) (files : Option Files)
    (name : List ℕ) : Type 0 where
  pub bytes : List ℕ
  pub read : IsRead is files name bytes
  pub are_so : P bytes

-- the job is that of the file
abbrev pub IsJobOf : Option Files → List ℕ → JobView → Type 0
IsJobOf files name job = HasReadFile file.Job (λ bytes. IsJobIn bytes job) files name

-- the requests are those that the file makes of the job
abbrev pub AreRequestsOf : Option Files → List ℕ → JobView → List Request → Type 0
AreRequestsOf files name job requests = HasReadFile file.Requests
    (λ bytes. requests_of job bytes ≡ Ok requests) files name

-- the rows are those of the payments file of the job
abbrev pub AreRowsOf : Option Files → List ℕ → JobView → List Row → Type 0
AreRowsOf files name job rows = HasReadFile file.Payments
    (λ bytes. rows_of job bytes ≡ Ok rows) files name

-- the beginning is that of the savepoint's file, for this setup and this number of rows
abbrev pub IsStartIn : Option Files → List ℕ → SetupView → ℕ → Begin → Type 0
IsStartIn files name setup rows start = HasReadFile file.Save
    (λ bytes. save_of setup rows bytes ≡ Ok start) files name

-- ---- why nothing is read

-- the bytes are no job, for this fault
abbrev pub RefusesJob : Fault → List ℕ → Type 0
RefusesJob (fault.Job code) bytes = (code ≢ job.NoMemory) × IsFaultIn bytes code
RefusesJob _ bytes = ⊥

-- the bytes are no requests of the job, for this fault
abbrev pub RefusesRequests : JobView → Fault → List ℕ → Type 0
RefusesRequests job (fault.Requests code) bytes = (code ≢ requests.NoMemory)
    × (requests_of job bytes ≡ Err code)
RefusesRequests job _ bytes = ⊥

-- the bytes are no payments of the job, for this fault
abbrev pub RefusesRows : JobView → Fault → List ℕ → Type 0
RefusesRows job (fault.Payments code) bytes = (code ≢ rows.NoMemory)
    × (rows_of job bytes ≡ Err code)
RefusesRows job _ bytes = ⊥

-- the bytes are no savepoint of the setup and this number of rows, for this fault
abbrev pub RefusesSave : SetupView → ℕ → Fault → List ℕ → Type 0
RefusesSave setup rows (fault.Save code) bytes = (code ≢ save.NoMemory)
    × (save_of setup rows bytes ≡ Err code)
RefusesSave setup rows _ bytes = ⊥

-- Why a file isn't read: it failed, is too long, or memory ran out; or else its bytes are refused
-- for this fault. Unless it failed, nothing was counted.
abbrev pub IsUnread : FileIs → (Fault → List ℕ → Type 0) → Option Files → List ℕ → Faults → Faults
    → Fault → Type 0
IsUnread is Refuses files name old new (fault.Read which) = (which ≡ is) × ReadFailed name old new
IsUnread is Refuses files name old new (fault.Long which) = (which ≡ is)
    × IfSome (told_bytes files name) (λ bytes. limit_of is < length bytes) × (new ≡ old)
IsUnread is Refuses files name old new fault.NoMemory = new ≡ old
IsUnread is Refuses files name old new why = HasReadFile is (Refuses why) files name × (new ≡ old)

-- why the file gives no job
abbrev pub IsNoJob : Option Files → List ℕ → Faults → Faults → Fault → Type 0
IsNoJob files name old new why = IsUnread file.Job RefusesJob files name old new why

-- why the file gives no requests of the job
abbrev pub AreNoRequests : Option Files → List ℕ → JobView → Faults → Faults → Fault → Type 0
AreNoRequests files name job old new why = IsUnread file.Requests
    (RefusesRequests job) files name old new why

-- why the file gives no rows of the job
abbrev pub AreNoRows : Option Files → List ℕ → JobView → Faults → Faults → Fault → Type 0
AreNoRows files name job old new why = IsUnread file.Payments
    (RefusesRows job) files name old new why

-- why the file gives no beginning for this setup and this number of rows
abbrev pub IsNoStart : Option Files → List ℕ → SetupView → ℕ → Faults → Faults → Fault → Type 0
IsNoStart files name setup rows old new why = IsUnread file.Save
    (RefusesSave setup rows) files name old new why

-- ---- seen from a file that is told

-- the file is told, isn't too long, and its bytes are so
pub record TellsFile (is : FileIs) (P : List ℕ → Type 0) (files : Option Files)
    (name : List ℕ) : Type 0 where
  pub bytes : List ℕ
  pub told : told_bytes files name ≡ Some bytes
  pub short : length bytes ≤ limit_of is
  pub are_so : P bytes

-- the file is told, and it is that of the job
abbrev pub TellsJob : Option Files → List ℕ → JobView → Type 0
TellsJob files name job = TellsFile file.Job (λ bytes. IsJobIn bytes job) files name

-- the file is told, and holds these requests of the job
abbrev pub TellsRequests : Option Files → List ℕ → JobView → List Request → Type 0
TellsRequests files name job requests = TellsFile file.Requests
    (λ bytes. requests_of job bytes ≡ Ok requests) files name

-- the file is told, and holds these rows of the job
abbrev pub TellsRows : Option Files → List ℕ → JobView → List Row → Type 0
TellsRows files name job rows = TellsFile file.Payments
    (λ bytes. rows_of job bytes ≡ Ok rows) files name

-- the file is told, and holds this beginning for the setup and this number of rows
abbrev pub TellsStart : Option Files → List ℕ → SetupView → ℕ → Begin → Type 0
TellsStart files name setup rows start = TellsFile file.Save
    (λ bytes. save_of setup rows bytes ≡ Ok start) files name

-- What a file is answered by, where it is told: one that is too long by just that, and one that is
-- refused by just the fault that its bytes have. Otherwise the call is excused.
pub record FollowsFile (is : FileIs) (Refuses : Fault → List ℕ → Type 0) (name : List ℕ)
    (old new : World) (answer : Option Fault) : Type 0 where
  pub long : (bytes : List ℕ) → told_bytes old.shelf.files name ≡ Some bytes
      → limit_of is < length bytes →
      (answer ≡ Some (fault.Long is)) ⊎ IsExcused old new answer
  pub refused : (why : Fault) → TellsFile is (Refuses why) old.shelf.files name
      → (answer ≡ Some why) ⊎ IsExcused old new answer
