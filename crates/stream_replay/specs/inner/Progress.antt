-- How far the parts of a stream were looked at.
use Rattle.std.specs.Prelude.{◌≡◌, ◌≤◌, ⊤, ℕ, List, drop, length, take}
use Rattle.audit_fault.specs.declared.fault.AuditFault.{AuditFault}
use Rattle.audit_fault.specs.declared.fault.AuditFault.TheVariants as audit
use Rattle.csv.specs.Reading.{default_config, records as records_of, strip_bom}
use Rattle.jobs.specs.Nodes.{AreFromSources}
use Rattle.versions.specs.Judged.{AreAccepted}
use Rattle.flow_model.specs.Planned.{IsPlanned}
use Rattle.flow_model.specs.Setup.{setup_view}
use Rattle.flow_model.specs.SetupView.{SetupView}
use Rattle.flow_model.specs.Workers.{workers_in}
use Rattle.audit_parts.specs.Texts.{IsReadAs, IsTextOf}
use Rattle.audit_parts.specs.declared.part.AuditPart.{AuditPart}
use Rattle.flow_model.specs.Run.{Ran}
use Rattle.stream_replay.specs.InParts.{ArePartRuns, Given, PartStart, Records, first_start}
use Rattle.stream_replay.specs.InParts.{start_behind}
use Rattle.stream_replay.specs.Loose.{HasLoose, IsLoose}
use Rattle.stream_replay.specs.declared.fault.PartFault.{PartFault}
use Rattle.stream_replay.specs.declared.fault.PartFault.TheVariants as part
use Rattle.stream_replay.specs.declared.progress.Progress.{Progress}
use Rattle.stream_replay.specs.declared.whole.Whole.{Whole}

-- the setup with all requests and plans
abbrev pub with_all : Whole → SetupView → SetupView
with_all whole setup = record setup { requests = whole.requests; plans = whole.plans }

-- what all parts are of
abbrev pub given_of : Whole → SetupView → Given
given_of whole setup = record {
  setup = with_all whole setup;
  refused = whole.noted.items;
  rows = whole.rows.now;
}

-- where the next part begins
abbrev pub start_in : Progress → PartStart
start_in progress = record { begin = progress.start; told = progress.told }

-- the records of a part, which its text has after the header
abbrev pub body_of : AuditPart → Records
body_of part = drop 1 (records_of default_config (strip_bom part.text))

-- the part's text is read as these records, and its counts are theirs
pub record IsCounted (part : AuditPart) : Type 0 where
  pub text : IsTextOf part (body_of part)
  pub read : IsReadAs part.text (body_of part)

-- the setup may have any of the first requests, with their plans
pub record IsOfWhole (whole : Whole) (setup : SetupView) : Type 0 where
  pub accepted : AreAccepted setup.job whole.requests
  pub planned : ∥ IsPlanned (with_all whole setup) ∥₁
  pub sources : AreFromSources setup.job whole.rows.now

-- the progress is one of parts of this
pub record IsProgress (whole : Whole) (progress : Progress) : Type 0 where
  pub of_whole : IsOfWhole whole (setup_view progress.setup)
  pub states : length progress.start.states
      ≡ length (workers_in (setup_view progress.setup).job)
  pub within : progress.start.row ≤ length whole.rows.now
  pub turned : progress.start.turned ≤ length whole.requests
  pub told : progress.told ≤ length whole.noted.items
  pub fed : progress.fed ≡ take progress.start.row whole.rows.now

-- These parts were found to be runs one after another, and the next begins where they have ended,
-- whatever they left.
pub record HasPassed (whole : Whole) (given : Given) (parts : List Records) (progress : Progress)
    : Type 0 where
  pub is : IsProgress whole progress
  pub given_is : given_of whole (setup_view progress.setup) ≡ given
  pub lefts : List Ran
  pub runs : ArePartRuns given (first_start given) parts lefts
  pub only : (others : List Ran) → ArePartRuns given (first_start given) parts others
      → start_behind given (first_start given) parts others ≡ start_in progress

-- the fault of the part with this number, which is no run, if memory was found
abbrev pub fault_of : ℕ → AuditFault → PartFault
fault_of number audit.NoMemory = part.NoMemory
fault_of number _ = part.Loose number

-- these parts, and then the last, aren't runs one after another, for this fault
abbrev pub IsLooseFor : Given → List Records → Records → PartFault → Type 0
IsLooseFor given earlier last (part.Loose number) = IsLoose given earlier last number
IsLooseFor given earlier last part.NoMemory = ⊤

-- the same among all parts
abbrev pub IsLooseAmong : Given → List Records → PartFault → Type 0
IsLooseAmong given parts (part.Loose number) = HasLoose given parts number
IsLooseAmong given parts part.NoMemory = ⊤
