-- The job of a file, and what is wrong with a file that is no job's.
use Rattle.std.specs.Prelude.{◌≡◌, ◌≢◌, ℕ, List, Option, None, Some, Result, Ok, Err}
use Rattle.toml.specs.Data.{Members}
use Rattle.jobs.specs.declared.fault.LawFault.{LawFault}
use Rattle.jobs.specs.Law.{IsLawful, IsRefused}
use Rattle.jobs.specs.Limits.{Oversize}
use Rattle.jobs.specs.JobView.{JobView}
use Rattle.job_file.specs.declared.fault.JobFault.{JobFault}
use Rattle.job_file.specs.declared.fault.JobFault.TheVariants as fault
use Rattle.job_file.specs.Document.{and_then, document_of}
use Rattle.job_file.specs.Faults.{in_form, of_law}
use Rattle.job_file.specs.Layout.{layout_of}
use Rattle.job_file.specs.Wide.{wide_in}

-- a job, unless this number is one that it has no room for
abbrev pub narrow : Option Oversize → JobView → Result JobView JobFault
narrow None job = Ok job
narrow (Some (size, number)) job = Err (fault.Limit size number)

-- the job of the table of a document: its form, then its wide numbers
abbrev pub job_in : Members → Result JobView JobFault
job_in ms = and_then (in_form (layout_of ms)) (narrow (wide_in ms))

-- the job that a file writes down, or the first fault of its form or of a wide number
abbrev pub job_of : List ℕ → Result JobView JobFault
job_of bytes = and_then (in_form (document_of bytes)) job_in

-- the fault is the one of the reading, or else that for which the job is refused
abbrev pub IsFaultOf : JobFault → Result JobView JobFault → Type 0
IsFaultOf f (Err first) = f ≡ first
IsFaultOf f (Ok job) = (law : LawFault) × (f ≡ of_law law) × IsRefused law job

-- the file has this fault, and none that comes before it
abbrev pub IsFaultIn : List ℕ → JobFault → Type 0
IsFaultIn bytes f = IsFaultOf f (job_of bytes)

-- the file writes down this job, and it is lawful
abbrev pub IsJobIn : List ℕ → JobView → Type 0
IsJobIn bytes job = (job_of bytes ≡ Ok job) × IsLawful job

-- no file both has a fault and is that of a job
abbrev pub Excludes : Type 0
Excludes =
    (bytes : List ℕ) (f : JobFault) (job : JobView) → f ≢ fault.NoMemory → IsFaultIn bytes f →
    IsJobIn bytes job → ⊥

-- no file has two faults, out of memory aside
abbrev pub HaveOneFault : Type 0
HaveOneFault =
    (bytes : List ℕ) (f g : JobFault) → f ≢ fault.NoMemory → g ≢ fault.NoMemory →
    IsFaultIn bytes f → IsFaultIn bytes g → f ≡ g
