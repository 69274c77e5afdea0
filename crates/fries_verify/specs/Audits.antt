-- What is read of an audit and of alerts beside it, and why it isn't.
use Rattle.std.specs.Prelude.{◌≡◌, ◌≢◌, ◌+◌, ◌++◌, ◌∷◌, ◌==◌, ⊤, ℕ, List, Option, None, Some}
use Rattle.std.specs.Prelude.{IfSome, [], codes, count_by, length, map, take}
use Rattle.jobs.specs.Job.{job_view}
use Rattle.audit_fault.specs.declared.fault.AuditFault.{AuditFault}
use Rattle.audit_fault.specs.declared.fault.AuditFault.TheVariants as audit
use Rattle.audit_laws.specs.Fits.{Fits, csv_records}
use Rattle.audit_laws.specs.Verdict.{DifferFirst, IsFirstFault}
use Rattle.fries_steps.specs.Reading.{FollowsFile, HasReadFile, IsUnread, TellsFile}
use Rattle.fries_steps.specs.Running.{summary_of}
use Rattle.fries_steps.specs.declared.running.Done.{Done}
use Rattle.flow_model.specs.Begin.{Begin, at_first}
use Rattle.flow_model.specs.Record.{record_view}
use Rattle.flow_model.specs.Run.{IsRunSince, Ran}
use Rattle.flow_model.specs.Setup.{setup_view}
use Rattle.flow_model.specs.SetupView.{SetupView}
use Rattle.flow_model.specs.Waiting.{waiting_for}
use Rattle.flow_model.specs.declared.setup.Setup.{Setup}
use Rattle.audit_live.specs.Live.{IsRunLive}
use Rattle.audit_live.specs.Shown.{shown_waits}
use Rattle.payments.specs.Causes.{Faults}
use Rattle.payments.specs.Files.{Files}
use Rattle.payments.specs.World.{World}
use Rattle.fries_lines.specs.Lines.{noted, summary_line}
use Rattle.fries_lines.specs.declared.fault.Fault.{Fault}
use Rattle.fries_lines.specs.declared.fault.Fault.TheVariants as fault
use Rattle.fries_lines.specs.declared.fault.FileIs.TheVariants as file
use Rattle.sink_journal.specs.Audit.{audit_header, audit_records}
use Rattle.sink_journal.specs.declared.audit.Noted.{Noted}
use Rattle.audit_parts.specs.Cut.{parts_of}
use Rattle.audit_stream.specs.Together.{together}
use Rattle.stream_replay.specs.InParts.{AreRunInParts, Given, Records}
use Rattle.stream_replay.specs.Loose.{HasLoose}
use Rattle.stream_replay.specs.Runs.{PartEnd}
use Rattle.tuple_trace.specs.declared.row.Row.{Row}
use Rattle.fries_verify.specs.Streams.{IsStreamOf, given_live, told_records}

-- ---- what an audit is of

-- What an audit is of: where the run begins, what it goes by, the order of its nodes, what judging
-- refused as an audit notes it, the rows, and the records that are to be the audit. The audit of a
-- stream also has parts.
pub record Subject : Type 0 where
  pub begin : Begin
  pub setup : SetupView
  pub order : List ℕ
  pub refused : List Noted
  pub rows : List Row
  pub records : List (List (List ℕ))
  pub parts : Option (List Records)

-- what all its parts are of
abbrev pub given_in : Subject → Given
given_in subject =
    record { setup = subject.setup; refused = subject.refused; rows = subject.rows }

-- a run of this setup and these rows, from this beginning on
abbrev pub subject_from : Begin → Setup → List Row → List (List (List ℕ)) → Subject
subject_from begin setup rows records = record {
  begin = begin;
  setup = setup_view setup;
  order = setup.job.dag.order;
  refused = map noted setup.judged.refused;
  rows = rows;
  records = records;
  parts = None;
}

-- a run of this setup and these rows, from the beginning of all on
abbrev pub subject_of : Setup → List Row → List ℕ → Subject
subject_of setup rows bytes =
    subject_from (at_first (setup_view setup)) setup rows (csv_records bytes)

-- the same of a run in which each request waits for the rows that the records show
abbrev pub shown_subject : Setup → List Row → List (List (List ℕ)) → Subject
shown_subject setup rows records =
    record (subject_from (at_first (setup_view setup)) setup rows records) {
      setup = waiting_for (shown_waits (length rows) setup.judged.accepted records)
          (setup_view setup);
    }

-- a run of `live`
abbrev pub live_subject : Setup → List Row → List ℕ → Subject
live_subject setup rows bytes = shown_subject setup rows (csv_records bytes)

-- a run whose parts are put together to these records
abbrev pub joined_subject : Setup → List Row → List ℕ → Subject
joined_subject setup rows bytes =
    shown_subject setup rows (together (job_view setup.job) (csv_records bytes))

-- a run of `stream`: that of its parts, each of which is a run by itself
abbrev pub stream_subject : Setup → List Row → List ℕ → Subject
stream_subject setup rows bytes =
    record (joined_subject setup rows bytes) { parts = parts_of (csv_records bytes) }

-- a later part, which begins here
abbrev pub later_subject : Begin → Setup → List Row → List ℕ → Subject
later_subject begin setup rows bytes = subject_from begin setup rows (csv_records bytes)

-- ---- whose audit bytes are

-- the record is a run of what this audit is of, and its audit has these records
pub record IsToldBy (subject : Subject) (ran : Ran) : Type 0 where
  pub run : IsRunSince subject.begin subject.setup subject.rows ran
  pub fits : subject.records ≡ audit_header
      ∷ audit_records ran.setup.job subject.refused ran.feeds ran.journals ran.states

-- the parts, if there are any, are runs one after another
abbrev pub HasRunParts : Subject → Type 0
HasRunParts subject = IfSome subject.parts (λ parts. (earlier : List Records) (last : Records)
    → parts ≡ earlier ++ last ∷ [] → AreRunInParts (given_in subject) earlier last)

-- so it is, and each part of the audit of a stream is a run from where the one before has ended
pub record IsAuditedBy (subject : Subject) (ran : Ran) : Type 0 where
  pub told : IsToldBy subject ran
  pub in_parts : HasRunParts subject

-- the records are the audit of no such run, for this fault
abbrev pub IsFaultOn : Subject → AuditFault → Type 0
IsFaultOn subject code =
    IsFirstFault subject.begin subject.setup subject.order subject.refused subject.rows
    subject.records code

-- the audit is that of a run, and this part of it, counted from 1, is the first that is no run from
-- where the one before has ended
pub record HasLoosePart (subject : Subject) (part : ℕ) : Type 0 where
  pub ran : Ran
  pub told : IsToldBy subject ran
  pub parts : List Records
  pub parts_are : subject.parts ≡ Some parts
  pub loose : HasLoose (given_in subject) parts part

-- the record is a run of what these bytes are the audit of
abbrev pub IsAudited : (List ℕ → Subject) → Ran → List ℕ → Type 0
IsAudited subject ran bytes = IsAuditedBy (subject bytes) ran

-- the bytes are the audit of no such run, for this fault
abbrev pub RefusesAudit : (List ℕ → Subject) → Fault → List ℕ → Type 0
RefusesAudit subject (fault.Audit code) bytes =
    (code ≢ audit.NoMemory) × IsFaultOn (subject bytes) code
RefusesAudit subject (fault.Part part) bytes = HasLoosePart (subject bytes) part
RefusesAudit subject _ bytes = ⊥

-- the record is the run whose audit the file holds
abbrev pub IsAuditOf : Option Files → List ℕ → (List ℕ → Subject) → Ran → Type 0
IsAuditOf files name subject ran = HasReadFile file.Audit (IsAudited subject ran) files name

-- the file is told, and holds the audit of this run
abbrev pub TellsAudit : Option Files → List ℕ → (List ℕ → Subject) → Ran → Type 0
TellsAudit files name subject ran = TellsFile file.Audit (IsAudited subject ran) files name

-- why the file gives no audit of such a run
abbrev pub IsNoAudit :
    Option Files → List ℕ → (List ℕ → Subject) → Faults → Faults → Fault → Type 0
IsNoAudit files name subject old new why =
    IsUnread file.Audit (RefusesAudit subject) files name old new why

-- bytes with an audit are refused for no fault, and no bytes are refused for two
pub record HaveOneVerdict (subject : List ℕ → Subject) : Type 0 where
  pub apart :
      (ran : Ran) (why : Fault) (bytes : List ℕ) → IsAudited subject ran bytes →
      RefusesAudit subject why bytes → ⊥
  pub sole :
      (f g : Fault) (bytes : List ℕ) → RefusesAudit subject f bytes →
      RefusesAudit subject g bytes → f ≡ g

-- the file holds the audit of this run, and of no other
pub record IsAuditedRun (files : Option Files) (name : List ℕ) (subject : List ℕ → Subject)
    (done : Done) : Type 0 where
  pub of_audit : IsAuditOf files name subject (record_view done.ran)
  pub only : (ran : Ran) → TellsAudit files name subject ran → record_view done.ran ≡ ran

-- the record is that of a live run of the setup and these rows, and the bytes have the records of
-- its audit
pub record IsLiveAudited (setup : Setup) (rows : List Row) (ran : Ran) (bytes : List ℕ)
    : Type 0 where
  pub live : IsRunLive (setup_view setup) rows ran
  pub fits : Fits (map noted setup.judged.refused) bytes ran

-- Whatever waits make a live run, those that its audit shows do.
abbrev pub AreShown : Setup → List Row → Type 0
AreShown setup rows =
    (ran : Ran) (bytes : List ℕ) → IsLiveAudited setup rows ran bytes →
    IsAudited (live_subject setup rows) ran bytes

-- Whatever parts were run in turn, and are together a live run: their audits, one after another,
-- show what its requests waited for, and are the audit of the stream.
abbrev pub AreStreamsShown : Setup → List Row → Type 0
AreStreamsShown setup rows =
    (ends : List PartEnd) (left ran : Ran) (bytes : List ℕ) →
    IsRunLive (setup_view setup) rows ran →
    IsStreamOf (given_live setup rows ran) ends left ran →
    csv_records bytes ≡ audit_header ∷ told_records (job_view setup.job)
    (given_live setup rows ran) ends left →
    IsAudited (stream_subject setup rows) ran bytes

-- ---- the alerts beside it

-- the line, counted from 1, in which a place of a text stands
abbrev pub line_at : List ℕ → ℕ → ℕ
line_at text place = 1 + count_by (λ byte. byte == 10) (take place text)

-- the bytes aren't this text, for this fault: it names the line of the first byte that differs
abbrev pub RefusesAlerts : List ℕ → Fault → List ℕ → Type 0
RefusesAlerts text (fault.Alerts line) bytes =
    (place : ℕ) × DifferFirst text bytes place × (line ≡ line_at bytes place)
RefusesAlerts text _ bytes = ⊥

-- the file, if one is named, holds just this text
abbrev pub HoldsAlerts : Option Files → Option (List ℕ) → List ℕ → Type 0
HoldsAlerts files None text = ⊤
HoldsAlerts files (Some name) text = HasReadFile file.Alerts (λ bytes. bytes ≡ text) files name

-- why the file that is named doesn't hold this text, or wasn't read
abbrev pub HoldsNoAlerts :
    Option Files → Option (List ℕ) → List ℕ → Faults → Faults → Fault → Type 0
HoldsNoAlerts files None text old new why = ⊥
HoldsNoAlerts files (Some name) text old new why =
    IsUnread file.Alerts (RefusesAlerts text) files name old new why

-- ---- seen from a file that is told

-- the file, if one is named, is told, and holds just this text
abbrev pub TellsAlerts : Option Files → Option (List ℕ) → List ℕ → Type 0
TellsAlerts files None text = ⊤
TellsAlerts files (Some name) text = TellsFile file.Alerts (λ bytes. bytes ≡ text) files name

-- the answer, seen from the file, if one is named, that is to hold this text
abbrev pub FollowsAlerts : Option (List ℕ) → List ℕ → World → World → Option Fault → Type 0
FollowsAlerts None text old new answer = ⊤
FollowsAlerts (Some name) text old new answer =
    FollowsFile file.Alerts (RefusesAlerts text) name old new answer

-- ---- what is printed of it

-- the lines that `verify` prints of the run
abbrev pub verified_lines : Done → List ℕ
verified_lines done = codes "verified\n" ++ summary_line (summary_of done)
