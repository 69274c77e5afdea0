-- The setup of a job and the requests that are made of it.
use Rattle.std.specs.Prelude.{◌≡◌, All, Bool, List}
use Rattle.jobs.specs.Job.{job_view}
use Rattle.jobs.specs.JobView.{JobView}
use Rattle.versions.specs.Judged.{judged}
use Rattle.versions.specs.declared.in_order.Judged.{Judged}
use Rattle.versions.specs.declared.request.Request.{Request}
use Rattle.flow_model.specs.Least.{ArePlansLeast}
use Rattle.flow_model.specs.Planned.{IsExact}
use Rattle.flow_model.specs.Setup.{setup_view}
use Rattle.flow_model.specs.SetupView.{SetupView}
use Rattle.flow_model.specs.declared.setup.Setup.{Setup}
use Rattle.flow_laws.specs.Determined.{NumbersAllNodes}

-- the requests that are kept are those that were accepted
abbrev pub AreSame : List Request → List Request → Type 0
AreSame accepted kept = kept ≡ accepted

-- the setup is that of a job and of requests that were judged so: it keeps what is accepted and has
-- what is refused, and exactly the planner's plans for this mode, each of which is the least cover
-- and numbers all nodes; for which nodes they are made as for splits is told by `Exact`
pub record IsSetupWith (Exact : SetupView → Type 0) (Keeps : List Request → List Request → Type 0)
    (ordered : Bool) (job : JobView) (verdicts : Judged) (setup : Setup) : Type 0 where
  pub job_is : job_view setup.job ≡ job
  pub accepted : Keeps verdicts.accepted setup.judged.accepted
  pub refused : setup.judged.refused ≡ verdicts.refused
  pub exact : Exact (setup_view setup)
  pub least : ArePlansLeast (setup_view setup)
  pub numbers : All NumbersAllNodes setup.plans
  pub mode : setup.ordered ≡ ordered

-- the setup of a run: the splits are those of the job and the requests
abbrev pub IsSetupFor :
    (List Request → List Request → Type 0) → Bool → JobView → List Request → Setup → Type 0
IsSetupFor Keeps ordered job requests setup =
    IsSetupWith IsExact Keeps ordered job (judged job requests) setup
