-- What a call of `resume` runs, why it doesn't, and how it ends.
use Rattle.std.specs.Prelude.{◌⊎◌, Bool, List, Option, None, Some, false, length}
use Rattle.jobs.specs.JobView.{JobView}
use Rattle.payments.specs.Causes.{Faults}
use Rattle.payments.specs.Files.{Files}
use Rattle.payments.specs.World.{World}
use Rattle.tuple_trace.specs.declared.row.Row.{Row}
use Rattle.versions.specs.declared.request.Request.{Request}
use Rattle.flow_model.specs.Begin.{Begin}
use Rattle.flow_model.specs.Setup.{setup_view}
use Rattle.flow_model.specs.declared.setup.Setup.{Setup}
use Rattle.fries_words.specs.Asked.{PlanAsked, ResumeAsked}
use Rattle.fries_words.specs.Form.{Text}
use Rattle.fries_lines.specs.declared.fault.Fault.{Fault}
use Rattle.fries_lines.specs.declared.fault.FileIs.TheVariants as file_is
use Rattle.fries_steps.specs.Outcomes.{StopsFor}
use Rattle.fries_steps.specs.Parts.{IsRunFromStart}
use Rattle.fries_steps.specs.Reading.{FollowsFile, IsNoStart, IsStartIn, RefusesSave, TellsStart}
use Rattle.fries_steps.specs.Running.{Runs}
use Rattle.fries_steps.specs.SetupFor.{AreSame, IsSetupFor}
use Rattle.fries_steps.specs.declared.answer.Answer.{Answer}
use Rattle.fries_steps.specs.declared.running.Done.{Done}
use Rattle.fries_call.specs.Follows.{IsDoneOrExcused}
use Rattle.fries_call.specs.Inputs.{AreInputsOf, AreNoInputs}

-- What the files hold was run from the beginning on that the savepoint's file tells. The setup is
-- that of the job and all requests.
pub record IsResumedRun (asked : ResumeAsked) (files : Option Files) (start : Begin)
    (done : Done) : Type 0 where
  pub job : JobView
  pub requests : List Request
  pub rows : List Row
  pub of_files : AreInputsOf files asked.run.plan asked.run.payments job requests rows
  pub setup : IsSetupFor AreSame false job requests done.ran.setup
  pub of_save : IsStartIn files asked.save (setup_view done.ran.setup) (length rows) start
  pub run : IsRunFromStart start done.ran.setup requests rows done

-- the files hold a job, requests and rows, and their setup in this mode has no savepoint in its
-- file, for this fault
pub record HasNoStart (ordered : Bool) (plan : PlanAsked) (payments save : Text)
    (files : Option Files) (old new : Faults) (why : Fault) : Type 0 where
  pub job : JobView
  pub requests : List Request
  pub rows : List Row
  pub setup : Setup
  pub of_files : AreInputsOf files plan payments job requests rows
  pub setup_is : IsSetupFor AreSame ordered job requests setup
  pub unread : IsNoStart files save (setup_view setup) (length rows) old new why

-- why there is no run: no job, no requests or no rows were read, or else no savepoint
abbrev pub IsNoResume : ResumeAsked → Option Files → Faults → Faults → Fault → Type 0
IsNoResume asked files old new why =
    AreNoInputs files asked.run.plan asked.run.payments old new why
    ⊎ HasNoStart false asked.run.plan asked.run.payments asked.save files old new why

-- how a call of `resume` ends, before the line of its fault is printed
abbrev pub EndsResume : ResumeAsked → World → World → Answer → Type 0
EndsResume asked old new answer =
    StopsFor (IsNoResume asked old.shelf.files) old new answer
    ⊎ ((start : Begin) × Runs (IsResumedRun asked old.shelf.files start) asked.run.alerts
    (Some asked.run.audit) None (Some start) old new answer)

-- the answer, seen from the savepoint's file, if the other files tell a job, requests and rows
pub record FollowsSavepoint (asked : ResumeAsked) (job : JobView) (requests : List Request)
    (rows : List Row) (old new : World) (answer : Option Fault) : Type 0 where
  pub file :
      (setup : Setup) → IsSetupFor AreSame false job requests setup →
      FollowsFile file_is.Save (RefusesSave (setup_view setup) (length rows)) asked.save
      old new answer
  pub later :
      (setup : Setup) (start : Begin) → IsSetupFor AreSame false job requests setup →
      TellsStart old.shelf.files asked.save (setup_view setup) (length rows) start →
      IsDoneOrExcused old new answer
