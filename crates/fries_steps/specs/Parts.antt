-- The two parts of a run with a savepoint between them.
use Rattle.std.specs.Prelude.{◌≡◌, ℕ, List, length, take, false}
use Rattle.flow_laws.specs.Later.{HasWholeRows}
use Rattle.jobs.specs.Nodes.{worker_count}
use Rattle.jobs.specs.JobView.{JobView}
use Rattle.tuple_trace.specs.declared.row.Row.{Row}
use Rattle.versions.specs.declared.request.Request.{Request}
use Rattle.flow_model.specs.Begin.{Begin}
use Rattle.flow_model.specs.Consistent.{IsConsistent}
use Rattle.flow_model.specs.Record.{record_view}
use Rattle.flow_model.specs.Requests.{afters}
use Rattle.flow_model.specs.Run.{IsRun, IsRunSince}
use Rattle.flow_model.specs.Setup.{setup_view}
use Rattle.flow_model.specs.declared.setup.Setup.{Setup}
use Rattle.savepoint.specs.Parts.{first_of, issued_up_to, start_of}
use Rattle.savepoint.specs.SaveReading.{CanSave}
use Rattle.fries_steps.specs.SetupFor.{AreSame, IsSetupFor}
use Rattle.fries_steps.specs.declared.running.Done.{Done}

-- the record has a journal and a state for each worker of its job
pub record HasWorkers (done : Done) : Type 0 where
  pub journals : length done.ran.journals ≡ worker_count done.ran.setup.job.nodes
  pub states : length done.ran.states ≡ worker_count done.ran.setup.job.nodes

-- The rows up to `row` were run, with the requests that are issued up to there. The setup is that
-- of the job and all its requests, without the later requests and their plans. What the run leaves
-- is consistent, and judging refused just these. Where it ends can be saved, so the text that is
-- written of it is read again.
pub record IsFirstPart (row : ℕ) (job : JobView) (requests : List Request) (rows : List Row)
    (done : Done) : Type 0 where
  pub whole : Setup
  pub setup : IsSetupFor AreSame false job requests whole
  pub row_is : done.row ≡ row
  pub cut : setup_view done.ran.setup ≡ first_of (setup_view whole)
      (issued_up_to row (length rows) (afters (setup_view whole).requests))
  pub run : IsRun (setup_view done.ran.setup) (take row rows) (record_view done.ran)
  pub consistent : IsConsistent (take row rows) (record_view done.ran)
  pub can_save : CanSave (setup_view whole) (length rows)
      (start_of done.row (record_view done.ran))
  pub refused : done.refused ≡ whole.judged.refused
  pub count : done.requests ≡ length requests

-- The rows were run by this setup from this beginning on. Each row that was fed is whole at each
-- request, whatever the beginning is.
pub record IsRunFromStart (start : Begin) (setup : Setup) (requests : List Request)
    (rows : List Row) (done : Done) : Type 0 where
  pub setup_is : done.ran.setup ≡ setup
  pub run : IsRunSince start (setup_view setup) rows (record_view done.ran)
  pub rows_are : HasWholeRows (record_view done.ran)
  pub refused : done.refused ≡ setup.judged.refused
  pub count : done.requests ≡ length requests
