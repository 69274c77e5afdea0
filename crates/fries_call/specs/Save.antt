-- What a call of `save` runs, and how it ends.
use Rattle.std.specs.Prelude.{◌⊎◌, List, Option, None, Some, length, min}
use Rattle.jobs.specs.JobView.{JobView}
use Rattle.payments.specs.Files.{Files}
use Rattle.payments.specs.World.{World}
use Rattle.tuple_trace.specs.declared.row.Row.{Row}
use Rattle.versions.specs.declared.request.Request.{Request}
use Rattle.fries_words.specs.Asked.{SaveAsked}
use Rattle.fries_steps.specs.Outcomes.{StopsFor}
use Rattle.fries_steps.specs.Parts.{IsFirstPart}
use Rattle.fries_steps.specs.Running.{Runs}
use Rattle.fries_steps.specs.declared.answer.Answer.{Answer}
use Rattle.fries_steps.specs.declared.running.Done.{Done}
use Rattle.fries_call.specs.Inputs.{AreInputsOf, AreNoInputs}

-- what was run is the first part of what the files hold
pub record IsSavedRun (asked : SaveAsked) (files : Option Files) (done : Done) : Type 0 where
  pub job : JobView
  pub requests : List Request
  pub rows : List Row
  pub of_files : AreInputsOf files asked.run.plan asked.run.payments job requests rows
  pub part : IsFirstPart (min asked.rows (length rows)) job requests rows done

-- How a call of `save` ends, before the line of its fault is printed. The savepoint is stored after
-- the alerts and the audit.
abbrev pub EndsSave : SaveAsked → World → World → Answer → Type 0
EndsSave asked old new answer =
    StopsFor (AreNoInputs old.shelf.files asked.run.plan asked.run.payments) old new answer
    ⊎ Runs (IsSavedRun asked old.shelf.files) asked.run.alerts (Some asked.run.audit)
    (Some asked.save) None old new answer
