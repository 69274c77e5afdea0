-- The calls of `save` and `resume` over the same files.
use Rattle.std.specs.Prelude.{◌≡◌, ℕ, List, Ok, false, length}
use Rattle.jobs.specs.JobView.{JobView}
use Rattle.tuple_trace.specs.declared.row.Row.{Row}
use Rattle.versions.specs.declared.request.Request.{Request}
use Rattle.flow_model.specs.Begin.{Begin}
use Rattle.flow_model.specs.Consistent.{IsConsistent}
use Rattle.flow_model.specs.Run.{IsRun, Ran}
use Rattle.flow_model.specs.Setup.{setup_view}
use Rattle.flow_model.specs.SetupView.{SetupView}
use Rattle.flow_model.specs.declared.setup.Setup.{Setup}
use Rattle.savepoint.specs.Parts.{AreParts, joined}
use Rattle.savepoint.specs.SaveReading.{save_of}
use Rattle.fries_steps.specs.Parts.{IsRunFromStart}
use Rattle.fries_steps.specs.Running.{saved_of}
use Rattle.fries_steps.specs.SetupFor.{AreSame, IsSetupFor}
use Rattle.fries_steps.specs.declared.running.Done.{Done}

-- a later call had this job and these requests and rows, read the text that is written of the
-- first, and ran the rows from there on
pub record GoesOn (job : JobView) (requests : List Request) (rows : List Row) (setup : Setup)
    (start : Begin) (first second : Done) : Type 0 where
  pub setup_is : IsSetupFor AreSame false job requests setup
  pub reads : save_of (setup_view setup) (length rows) (saved_of first) ≡ Ok start
  pub run : IsRunFromStart start setup requests rows second

-- both records are parts of a run, and joined they are a run of all rows, which is consistent
pub record AreOneRun (setup : SetupView) (rows : List Row) (row : ℕ) (first second : Ran)
    : Type 0 where
  pub parts : AreParts setup rows row first second
  pub run : IsRun setup rows (joined setup first second)
  pub consistent : IsConsistent rows (joined setup first second)
