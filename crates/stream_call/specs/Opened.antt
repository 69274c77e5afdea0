-- A stream that is to be run, and what it was opened from.
use Rattle.std.specs.Prelude.{◌≡◌, ◌≤◌, ℕ, List, [], IfSome, Ok, Option, None, Some, false, length}
use Rattle.std.specs.Prelude.{map, option_map, take}
use Rattle.payments.specs.Files.{Files, told_bytes, with_bytes}
use Rattle.payments.specs.Growing.{with_cut}
use Rattle.payments.specs.World.{ShelfState}
use Rattle.input_pieces.specs.Gathering.{is_over, kept_of}
use Rattle.job_file.specs.RequestFile.{requests_up_to}
use Rattle.jobs.specs.Job.{job_view}
use Rattle.jobs.specs.JobView.{JobView}
use Rattle.sink_journal.specs.Alerts.{header}
use Rattle.sink_journal.specs.Audit.{audit_header}
use Rattle.sink_journal.specs.Records.{record_text}
use Rattle.versions.specs.declared.limits.TheConstants.{MAX_STREAM_REQUESTS}
use Rattle.versions.specs.declared.request.Request.{Request}
use Rattle.flow_model.specs.Setup.{setup_view}
use Rattle.fries_lines.specs.Lines.{noted}
use Rattle.fries_lines.specs.declared.fault.FileIs.TheVariants as file
use Rattle.fries_steps.specs.Reading.{HasReadFile, IsJobOf}
use Rattle.stream_rows.specs.Reader.{IsReadTo, fed_of}
use Rattle.stream_save.specs.StreamReading.{stream_save_of}
use Rattle.stream_save.specs.StreamText.{StreamSave}
use Rattle.stream_step.specs.Pending.{exact_from}
use Rattle.stream_step.specs.Resumed.{IsResumed}
use Rattle.stream_intake.specs.Intake.{IsMaskOfNodes, judged_in, refused_after}
use Rattle.stream_run.specs.Growing.{Names}
use Rattle.stream_run.specs.Standing.{Begins}
use Rattle.stream_turns.specs.Turns.{CanTakeTurn}
use Rattle.fries_words.specs.declared.stream.StreamFiles.{StreamFiles}
use Rattle.fries_words.specs.declared.stream.StreamSaving.{StreamSaving}
use Rattle.stream_call.specs.declared.opened.Opened.{Opened}

-- ---- what is asked

-- the file of the savepoint; that of the audit stands in its place if none is to be written
abbrev pub save_name : List ℕ → Option StreamSaving → List ℕ
save_name audit None = audit
save_name audit (Some saving) = saving.file

-- the names of the files of a stream
abbrev pub names_of : StreamFiles → Names
names_of files = record {
  requests = files.plan.requests;
  alerts = files.alerts;
  audit = files.audit;
  save = save_name files.audit files.saving;
}

-- after how many rows the savepoint is written again, if one is asked for
abbrev pub every_of : Option StreamSaving → Option ℕ
every_of None = None
every_of (Some saving) = Some saving.every

-- Where a stream is to go on.
pub record Resume : Type 0 where
  pub save : List ℕ
  pub left_out : ℕ

abbrev pub resume_at : List ℕ → ℕ → Resume
resume_at save left_out = record { save = save; left_out = left_out }

-- the file of the savepoint, and how many rows the input leaves out, if a stream is to go on
abbrev pub resume_of : Option StreamSaving → Option Resume
resume_of None = None
resume_of (Some saving) =
    option_map (λ left_out. resume_at saving.file left_out) saving.resume

-- ---- a stream that can be run

-- The stream begins anew, with files that hold their headers alone, or behind a row. It can take a
-- turn, and nothing of its input is read. It is exact from here on, if that is asked. The books have
-- how many requests were read, and those that were refused; no tuple has reached a sink.
pub record IsOpened (asked : StreamFiles) (opened : Opened) (files : Option Files) : Type 0 where
  pub begins : Begins opened.behind (names_of asked) opened.stream files
  pub ready : CanTakeTurn opened.source (every_of asked.saving) opened.stream opened.inputs
  pub unread : (job : JobView) → IsReadTo job (fed_of opened.inputs.reader) opened.inputs.reader []
  pub kept : kept_of opened.inputs.pieces ≡ []
  pub goes_on : is_over opened.inputs.pieces ≡ false
  pub exact : opened.stream.exact ≡ exact_from asked.exact opened.stream.start.turned
  pub read : opened.inputs.books.read ≡ length opened.inputs.known.requests
  pub noted_are : opened.inputs.books.refused.items ≡ map noted opened.inputs.refused
  pub none_shown : opened.inputs.books.tally.shown ≡ 0

-- ---- what it was opened from

-- the requests are those that the file makes of the job, as many as a stream may have
abbrev pub AreStreamRequestsOf : Option Files → List ℕ → JobView → List Request → Type 0
AreStreamRequestsOf files name job requests = HasReadFile file.Requests
    (λ bytes. requests_up_to MAX_STREAM_REQUESTS job bytes ≡ Ok requests) files name

-- the savepoint is that of the file, for a stream of the job
abbrev pub IsStreamSaveOf : Option Files → List ℕ → JobView → StreamSave → Type 0
IsStreamSaveOf files name job save =
    HasReadFile file.Save (λ bytes. stream_save_of job bytes ≡ Ok save) files name

-- the stream has the job of its file, and all requests of theirs are known
pub record IsOfFiles (asked : StreamFiles) (files : Option Files) (opened : Opened)
    : Type 0 where
  pub job : IsJobOf files asked.plan.job (job_view opened.stream.setup.job)
  pub requests : AreStreamRequestsOf files asked.plan.requests
      (job_view opened.stream.setup.job) opened.inputs.known.requests
  pub splits : IsMaskOfNodes opened.stream.setup.job.nodes opened.stream.setup.splits

-- The stream begins anew: its input leaves out no row, and none of its requests was issued. Both
-- files were made, each with its header alone, whose length the books have.
pub record IsAnew (asked : StreamFiles) (before after : Option Files) (opened : Opened)
    : Type 0 where
  pub behind : opened.behind ≡ None
  pub none_left_out : fed_of opened.inputs.reader ≡ 0
  pub ordered : opened.stream.setup.ordered ≡ asked.plan.ordered
  pub none_issued : opened.stream.setup.judged.accepted ≡ []
  pub refused : opened.inputs.refused
      ≡ (judged_in opened.stream opened.inputs.known.requests).refused
  pub alerts_counted : opened.inputs.books.tally.alerts
      ≡ length (record_text (header opened.stream.setup.job.columns))
  pub audit_counted : opened.inputs.books.tally.audit ≡ length (record_text audit_header)
  pub files_are : after ≡ with_bytes (with_bytes before asked.alerts
      (record_text (header opened.stream.setup.job.columns))) asked.audit
      (record_text audit_header)

-- the file had at least so many bytes, and was cut to them
pub record IsCutTo (name : List ℕ) (size : ℕ) (before after : Option Files) : Type 0 where
  pub enough : IfSome (told_bytes before name) (λ told. size ≤ length told)
  pub files_are : after ≡ with_cut before name size

-- both files were cut to these lengths: first that of the alerts, and then that of the audit
abbrev pub AreCutTo : StreamFiles → ℕ → ℕ → Option Files → Option Files → Type 0
AreCutTo asked alerts audit before after = (mid : Option Files)
    × IsCutTo asked.alerts alerts before mid × IsCutTo asked.audit audit mid after

-- The stream goes on from the savepoint of this file: from its row, with the requests that were
-- issued before. Its input leaves out so many rows. Both files were cut to the lengths that the
-- savepoint has, and so have the books.
pub record GoesOnFrom (resume : Resume) (asked : StreamFiles) (before after : Option Files)
    (opened : Opened) : Type 0 where
  pub save : StreamSave
  pub read : IsStreamSaveOf before resume.save (job_view opened.stream.setup.job) save
  pub behind : opened.behind ≡ Some save.start.row
  pub left_out : fed_of opened.inputs.reader ≡ resume.left_out
  pub start : opened.stream.start ≡ save.start
  pub resumed : IsResumed (job_view opened.stream.setup.job)
      (judged_in opened.stream (take save.read opened.inputs.known.requests)).accepted
      asked.plan.ordered save (setup_view opened.stream.setup)
  pub refused : opened.inputs.refused
      ≡ refused_after opened.stream (take save.read opened.inputs.known.requests)
      opened.inputs.known.requests
  pub alerts_counted : opened.inputs.books.tally.alerts ≡ save.alerts
  pub audit_counted : opened.inputs.books.tally.audit ≡ save.audit
  pub cut : AreCutTo asked save.alerts save.audit before after

-- the stream begins anew, unless it is to go on
abbrev pub BeginsFrom : Option Resume → StreamFiles → Option Files → Option Files → Opened → Type 0
BeginsFrom None asked before after opened = IsAnew asked before after opened
BeginsFrom (Some resume) asked before after opened = GoesOnFrom resume asked before after opened

-- From these files a stream was opened as it was asked, and these are left.
pub record Opens (asked : StreamFiles) (before after : ShelfState) (opened : Opened) : Type 0 where
  pub is : IsOpened asked opened after.files
  pub of : IsOfFiles asked before.files opened
  pub from : BeginsFrom (resume_of asked.saving) asked before.files after.files opened
  pub faults : after.faults ≡ before.faults
