-- What a call answers, seen from the files that it reads: each is looked at if those before it hold
-- what they should.
use Rattle.std.specs.Prelude.{◌≡◌, ◌⊎◌, List, Option, None}
use Rattle.jobs.specs.JobView.{JobView}
use Rattle.payments.specs.World.{World}
use Rattle.tuple_trace.specs.declared.row.Row.{Row}
use Rattle.versions.specs.declared.request.Request.{Request}
use Rattle.fries_words.specs.Asked.{PlanAsked}
use Rattle.fries_words.specs.Form.{Text}
use Rattle.fries_lines.specs.declared.fault.Fault.{Fault}
use Rattle.fries_lines.specs.declared.fault.FileIs.TheVariants as file_is
use Rattle.fries_steps.specs.Effects.{IsExcused}
use Rattle.fries_steps.specs.Reading.{FollowsFile, RefusesJob, RefusesRequests, RefusesRows}
use Rattle.fries_steps.specs.Reading.{TellsJob, TellsRequests, TellsRows}

-- the call is done, unless it is excused
abbrev pub IsDoneOrExcused : World → World → Option Fault → Type 0
IsDoneOrExcused old new answer = (answer ≡ None) ⊎ IsExcused old new answer

-- the answer, seen from the job file; if it tells a job, `Then` is so of that
pub record FollowsJobThen (name : Text) (Then : JobView → Type 0) (old new : World)
    (answer : Option Fault) : Type 0 where
  pub file : FollowsFile file_is.Job RefusesJob name old new answer
  pub later : (job : JobView) → TellsJob old.shelf.files name job → Then job

-- the answer, seen from the request file of the job; if it tells requests, `Then` is so of them
pub record FollowsRequestsThen (job : JobView) (name : Text) (Then : List Request → Type 0)
    (old new : World) (answer : Option Fault) : Type 0 where
  pub file : FollowsFile file_is.Requests (RefusesRequests job) name old new answer
  pub later :
      (requests : List Request) → TellsRequests old.shelf.files name job requests → Then requests

-- the answer, seen from the payments file of the job; if it tells rows, `Then` is so of them
pub record FollowsRowsThen (job : JobView) (name : Text) (Then : List Row → Type 0)
    (old new : World) (answer : Option Fault) : Type 0 where
  pub file : FollowsFile file_is.Payments (RefusesRows job) name old new answer
  pub later : (rows : List Row) → TellsRows old.shelf.files name job rows → Then rows

-- the answer, seen from the files of a plan; if they tell a job and its requests, `Then` is so of
-- them
abbrev pub FollowsPlanThen :
    PlanAsked → (JobView → List Request → Type 0) → World → World → Option Fault → Type 0
FollowsPlanThen plan Then old new answer =
    FollowsJobThen plan.job
    (λ job. FollowsRequestsThen job plan.requests (Then job) old new answer) old new answer

-- the answer, seen from the files of a run; if they tell a job, its requests and its rows, `Then`
-- is so of them
abbrev pub FollowsInputsThen :
    PlanAsked → Text → (JobView → List Request → List Row → Type 0) → World → World
    → Option Fault → Type 0
FollowsInputsThen plan payments Then old new answer =
    FollowsPlanThen plan
    (λ job requests. FollowsRowsThen job payments (Then job requests) old new answer) old new answer
