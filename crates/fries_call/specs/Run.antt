-- What a call of `run` runs, and how it ends.
use Rattle.std.specs.Prelude.{◌⊎◌, IsTrue, List, Option, None, Some}
use Rattle.stream_law.specs.Border.{AreExactAfter}
use Rattle.flow_model.specs.Record.{record_view}
use Rattle.flow_model.specs.Setup.{setup_view}
use Rattle.jobs.specs.JobView.{JobView}
use Rattle.payments.specs.Files.{Files}
use Rattle.payments.specs.World.{World}
use Rattle.tuple_trace.specs.declared.row.Row.{Row}
use Rattle.versions.specs.declared.request.Request.{Request}
use Rattle.fries_words.specs.Asked.{RunAsked}
use Rattle.fries_steps.specs.Outcomes.{StopsFor}
use Rattle.fries_steps.specs.Running.{IsRunOf, Runs}
use Rattle.fries_steps.specs.SetupFor.{AreSame}
use Rattle.fries_steps.specs.declared.answer.Answer.{Answer}
use Rattle.fries_steps.specs.declared.running.Done.{Done}
use Rattle.fries_call.specs.Inputs.{AreInputsOf, AreNoInputs}

-- each accepted request has its border at the row for which it waits, or at the last row if that
-- comes before
abbrev pub HasExactBorders : List Row → Done → Type 0
HasExactBorders rows done =
    AreExactAfter 0
    (record { setup = setup_view done.ran.setup; rows = rows; ran = record_view done.ran })

-- What was run is what the files hold. If the borders are to be exact, they are.
pub record IsRunOfFiles (asked : RunAsked) (files : Option Files) (done : Done) : Type 0 where
  pub job : JobView
  pub requests : List Request
  pub rows : List Row
  pub of_files : AreInputsOf files asked.plan asked.payments job requests rows
  pub run : IsRunOf AreSame asked.plan.ordered job requests rows done
  pub exact : IsTrue asked.exact → HasExactBorders rows done

-- how a call of `run` ends, before the line of its fault is printed
abbrev pub EndsRun : RunAsked → World → World → Answer → Type 0
EndsRun asked old new answer =
    StopsFor (AreNoInputs old.shelf.files asked.plan asked.payments) old new answer
    ⊎ Runs (IsRunOfFiles asked old.shelf.files) asked.alerts
    (Some asked.audit) None None old new answer
