-- What the files of a run hold, and why they aren't read.
use Rattle.std.specs.Prelude.{◌⊎◌, List, Option}
use Rattle.jobs.specs.JobView.{JobView}
use Rattle.payments.specs.Causes.{Faults}
use Rattle.payments.specs.Files.{Files}
use Rattle.tuple_trace.specs.declared.row.Row.{Row}
use Rattle.versions.specs.declared.request.Request.{Request}
use Rattle.fries_words.specs.Asked.{PlanAsked}
use Rattle.fries_words.specs.Form.{Text}
use Rattle.fries_lines.specs.declared.fault.Fault.{Fault}
use Rattle.fries_steps.specs.Reading.{AreNoRows, AreRequestsOf, AreRowsOf, IsJobOf}
use Rattle.fries_call.specs.Plan.{IsNoSetup}

-- the job, the requests and the rows are those of the files
pub record AreInputsOf (files : Option Files) (plan : PlanAsked) (payments : Text) (job : JobView)
    (requests : List Request) (rows : List Row) : Type 0 where
  pub of_job : IsJobOf files plan.job job
  pub of_requests : AreRequestsOf files plan.requests job requests
  pub of_rows : AreRowsOf files payments job rows

-- why they aren't read: no job or no requests were read, or else no payments
abbrev pub AreNoInputs : Option Files → PlanAsked → Text → Faults → Faults → Fault → Type 0
AreNoInputs files plan payments old new why =
    IsNoSetup plan files old new why
    ⊎ ((job : JobView) × (requests : List Request) × IsJobOf files plan.job job
    × AreRequestsOf files plan.requests job requests × AreNoRows files payments job old new why)
