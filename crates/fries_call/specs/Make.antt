-- What a call of `make` runs, why it doesn't, and how it ends.
use Rattle.std.specs.Prelude.{◌≡◌, ◌≢◌, ◌⊎◌, ⊤, List, [], Option, Some, Ok, Err}
use Rattle.fries_words.specs.Asked.{MakeAsked}
use Rattle.jobs.specs.JobView.{JobView}
use Rattle.payments.specs.Causes.{Faults}
use Rattle.payments.specs.Files.{Files}
use Rattle.payments.specs.Made.{made_rows}
use Rattle.payments.specs.declared.read.PFault.{PFault}
use Rattle.payments.specs.declared.read.PFault.TheVariants as rows
use Rattle.tuple_trace.specs.declared.row.Row.{Row}
use Rattle.fries_lines.specs.declared.fault.Fault.{Fault}
use Rattle.fries_lines.specs.declared.fault.Fault.TheVariants as fault
use Rattle.fries_steps.specs.Outcomes.{StopsFor}
use Rattle.payments.specs.World.{World}
use Rattle.fries_steps.specs.Effects.{IsExcused}
use Rattle.fries_steps.specs.SetupFor.{AreSame}
use Rattle.fries_steps.specs.Reading.{IsJobOf, IsNoJob}
use Rattle.fries_steps.specs.Running.{IsRunOf, made_lines}
use Rattle.fries_steps.specs.declared.answer.Answer.{Answer}
use Rattle.fries_steps.specs.declared.running.Done.{Done}
use Rattle.fries_call.specs.Follows.{IsDoneOrExcused}
use Rattle.fries_call.specs.Prints.{PrintsRun}

-- the rows that were run are those that are made for the job of the file, and no request was made
pub record IsMadeRun (asked : MakeAsked) (files : Option Files) (done : Done) : Type 0 where
  pub job : JobView
  pub rows : List Row
  pub of_job : IsJobOf files asked.job job
  pub of_rows : made_rows job asked.seed asked.rows ≡ Ok rows
  pub run : IsRunOf AreSame asked.ordered job [] rows done
  pub accepted : done.refused ≡ []

-- no rows are made for the job, for this fault; memory may run out
abbrev pub MakesNoRows : MakeAsked → JobView → Fault → Type 0
MakesNoRows asked job (fault.Payments code) = (code ≢ rows.NoMemory)
    × (made_rows job asked.seed asked.rows ≡ Err code)
MakesNoRows asked job fault.NoMemory = ⊤
MakesNoRows asked job _ = ⊥

-- why there is no run: no job was read, or else no rows were made for it
abbrev pub IsNotMade : MakeAsked → Option Files → Faults → Faults → Fault → Type 0
IsNotMade asked files old new why =
    IsNoJob files asked.job old new why ⊎ ((job : JobView) × IsJobOf files asked.job job
    × MakesNoRows asked job why × (new ≡ old))

-- ---- how it ends

-- how a call of `make` ends, before the line of its fault is printed
abbrev pub EndsMake : MakeAsked → World → World → Answer → Type 0
EndsMake asked old new answer =
    StopsFor (IsNotMade asked old.shelf.files) old new answer
    ⊎ PrintsRun (IsMadeRun asked old.shelf.files) made_lines old new answer

-- the answer, seen from the rows that are to be made, if the job file tells this job
pub record FollowsMade (asked : MakeAsked) (job : JobView) (old new : World)
    (answer : Option Fault) : Type 0 where
  pub refused :
      (code : PFault) → made_rows job asked.seed asked.rows ≡ Err code →
      (answer ≡ Some (fault.Payments code)) ⊎ IsExcused old new answer
  pub made :
      (rows : List Row) → made_rows job asked.seed asked.rows ≡ Ok rows →
      IsDoneOrExcused old new answer
