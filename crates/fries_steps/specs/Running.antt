-- What a call runs, and what it writes of that.
use Rattle.std.specs.Prelude.{◌≡◌, ◌++◌, ◌∷◌, ℕ, Bool, IsTrue, List, [], Option, None, Some, length}
use Rattle.std.specs.Prelude.{map, if◌then◌else◌}
use Rattle.jobs.specs.Job.{job_view}
use Rattle.jobs.specs.JobView.{JobView}
use Rattle.sink_journal.specs.Alerts.{alerts}
use Rattle.sink_journal.specs.Audit.{audit}
use Rattle.tuple_trace.specs.declared.row.Row.{Row}
use Rattle.versions.specs.declared.request.Request.{Request}
use Rattle.flow_model.specs.Begin.{Begin}
use Rattle.flow_model.specs.Consistent.{IsConsistent}
use Rattle.flow_model.specs.OneTable.{HasNoCounts}
use Rattle.flow_model.specs.Record.{record_view}
use Rattle.flow_model.specs.Run.{IsRun, Ran}
use Rattle.flow_model.specs.Serial.{IsSerial, SeesPrefix, serial}
use Rattle.flow_model.specs.Setup.{setup_view}
use Rattle.flow_model.specs.declared.record.RunRecord.{RunRecord}
use Rattle.flow_model.specs.declared.setup.Setup.{Setup}
use Rattle.savepoint.specs.Parts.{start_of}
use Rattle.savepoint.specs.SaveText.{save_text}
use Rattle.serial_order.specs.Serials.{serial_line, serials}
use Rattle.fries_steps.specs.Outcomes.{EndsAfterRun}
use Rattle.fries_lines.specs.Lines.{alert_count, noted, refused_lines, row_count, summary_line}
use Rattle.payments.specs.World.{World}
use Rattle.fries_steps.specs.Effects.{FileText}
use Rattle.fries_steps.specs.SetupFor.{IsSetupFor}
use Rattle.fries_steps.specs.declared.answer.Answer.{Answer}
use Rattle.fries_lines.specs.declared.fault.FileIs.TheVariants as file
use Rattle.fries_lines.specs.declared.lines.Summary.{Summary}
use Rattle.fries_steps.specs.declared.running.Done.{Done}

-- ---- the run

-- Rows and requests have one order: each row comes after the first requests up to its number, and
-- before all later ones. If no node counts, the sinks got what each row makes by itself with the
-- functions after those requests.
pub record HaveOneOrder (rows : List Row) (ran : Ran) : Type 0 where
  pub prefix : (row : ℕ) → SeesPrefix ran row (serial ran row)
  pub alone : HasNoCounts ran.setup.job → IsSerial rows ran

-- What is kept of a run: its record, how many requests and rows there were, the requests that
-- judging refused, and in ordered mode the number of each row.
pub record IsDoneOf (ran : RunRecord) (requests : List Request) (rows : List Row)
    (done : Done) : Type 0 where
  pub ran_is : done.ran ≡ ran
  pub count : done.requests ≡ length requests
  pub row : done.row ≡ length rows
  pub refused : done.refused ≡ ran.setup.judged.refused
  pub numbers : IsTrue ran.setup.ordered → done.serial ≡ serials (record_view ran) rows

-- The rows were run by a setup for these requests, and judging refused just its own. What the run
-- leaves is consistent. In ordered mode rows and requests have one order, and each row has its
-- number.
pub record IsRunUnder (IsFor : Setup → Type 0) (requests : List Request) (rows : List Row)
    (done : Done) : Type 0 where
  pub setup : IsFor done.ran.setup
  pub run : IsRun (setup_view done.ran.setup) rows (record_view done.ran)
  pub consistent : IsConsistent rows (record_view done.ran)
  pub one_order : IsTrue done.ran.setup.ordered → HaveOneOrder rows (record_view done.ran)
  pub numbers : IsTrue done.ran.setup.ordered → done.serial ≡ serials (record_view done.ran) rows
  pub refused : done.refused ≡ done.ran.setup.judged.refused
  pub count : done.requests ≡ length requests

-- The rows were run by the setup of the job and its requests in this mode. How the requests of the
-- record relate to those that judging accepts is told by `Keeps`.
abbrev pub IsRunOf : (List Request → List Request → Type 0) → Bool → JobView → List Request →
    List Row → Done → Type 0
IsRunOf Keeps ordered job requests rows done =
    IsRunUnder (IsSetupFor Keeps ordered job requests) requests rows done

-- ---- what is written of it

-- the text of the alerts
abbrev pub alerts_of : Done → List ℕ
alerts_of done = alerts (job_view done.ran.setup.job) done.ran.journals

-- the text of the audit
abbrev pub audit_of : Done → List ℕ
audit_of done =
    audit (job_view done.ran.setup.job)
    (map noted done.refused) done.ran.feeds done.ran.journals done.ran.states

-- the text of the savepoint: where a run goes on after this one
abbrev pub saved_of : Done → List ℕ
saved_of done = save_text (job_view done.ran.setup.job) (start_of done.row (record_view done.ran))

-- a savepoint's file, if there is a name for one
abbrev pub save_files : Option (List ℕ) → List ℕ → List FileText
save_files None text = []
save_files (Some name) text = record { is = file.Save; name = name; text = text } ∷ []

-- an audit file and the savepoint's, if there are names for them
abbrev pub audit_files : Option (List ℕ) → Option (List ℕ) → Done → List FileText
audit_files None save done = []
audit_files (Some name) save done = record { is = file.Audit; name = name; text = audit_of done }
    ∷ save_files save (saved_of done)

-- the files that are written of it, in their order
abbrev pub files_written : List ℕ → Option (List ℕ) → Option (List ℕ) → Done → List FileText
files_written alerts audit save done =
    record { is = file.Alerts; name = alerts; text = alerts_of done } ∷ audit_files audit save done

-- what is counted of a run: its rows, the tuples that came to sinks, and the requests, all and
-- refused
abbrev pub summary_of : Done → Summary
summary_of done = record {
  rows = row_count done.ran.feeds;
  alerts = alert_count done.ran.setup.job.nodes done.ran.journals;
  requests = done.requests;
  refused = length done.refused;
}

-- in ordered mode, how many rows come after each number of requests
abbrev pub serial_lines : Done → List ℕ
serial_lines done = if done.ran.setup.ordered then serial_line
    (length done.ran.setup.judged.accepted) done.serial else []

-- what is printed: each refused request, then the numbers of rows in ordered mode, and then the
-- summary
abbrev pub run_lines : Done → List ℕ
run_lines done = (refused_lines done.refused ++ serial_lines done) ++ summary_line (summary_of done)

-- what is printed of rows that were made: only the summary, in either mode
abbrev pub made_lines : Done → List ℕ
made_lines done = summary_line (summary_of done)

-- the call ran something that is so, and came to storing its files and printing the lines of that
pub record Runs (IsSo : Done → Type 0) (alerts : List ℕ) (audit save : Option (List ℕ))
    (from : Option Begin) (old new : World) (answer : Answer) : Type 0 where
  pub done : Done
  pub is_so : IsSo done
  pub outcome :
      EndsAfterRun (files_written alerts audit save done) (run_lines done) old new answer.fault
  pub refused : answer.refused ≡ done.refused
  pub ran : answer.ran ≡ Some done.ran
  pub start : answer.start ≡ from
