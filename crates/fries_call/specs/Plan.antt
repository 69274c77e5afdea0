-- What a call of `plan` makes of its files, why it doesn't, and how it ends.
use Rattle.std.specs.Prelude.{◌≡◌, ◌⊎◌, ◌++◌, ℕ, List, Option, None}
use Rattle.jobs.specs.Job.{job_view}
use Rattle.jobs.specs.JobView.{JobView}
use Rattle.payments.specs.Causes.{Faults}
use Rattle.payments.specs.Files.{Files}
use Rattle.versions.specs.declared.request.Request.{Request}
use Rattle.flow_model.specs.declared.setup.Setup.{Setup}
use Rattle.fries_words.specs.Asked.{PlanAsked}
use Rattle.fries_steps.specs.SetupFor.{AreSame, IsSetupFor}
use Rattle.fries_steps.specs.Outcomes.{PrintsLines, StopsFor}
use Rattle.fries_lines.specs.Lines.{plan_lines, refused_lines}
use Rattle.payments.specs.World.{World}
use Rattle.fries_steps.specs.Reading.{AreNoRequests, AreRequestsOf, IsJobOf, IsNoJob}
use Rattle.fries_steps.specs.declared.answer.Answer.{Answer}
use Rattle.fries_lines.specs.declared.fault.Fault.{Fault}

-- ---- the setup

-- the setup is that of what the files hold
pub record IsSetupOf (asked : PlanAsked) (files : Option Files) (setup : Setup) : Type 0 where
  pub job : JobView
  pub requests : List Request
  pub of_job : IsJobOf files asked.job job
  pub of_requests : AreRequestsOf files asked.requests job requests
  pub setup_is : IsSetupFor AreSame asked.ordered job requests setup

-- why there is no setup: no job was read, or else no requests
abbrev pub IsNoSetup : PlanAsked → Option Files → Faults → Faults → Fault → Type 0
IsNoSetup asked files old new why =
    IsNoJob files asked.job old new why
    ⊎ ((job : JobView) × IsJobOf files asked.job job
    × AreNoRequests files asked.requests job old new why)

-- ---- how it ends

-- what is printed of a setup: the plan of each accepted request, and then each refused request
abbrev pub setup_lines : Setup → List ℕ
setup_lines setup = plan_lines (job_view setup.job) setup.plans
    ++ refused_lines setup.judged.refused

-- the call made the setup of what the files hold, and came to printing its lines; it changed no
-- file
pub record PrintsSetup (asked : PlanAsked) (old new : World) (answer : Answer) : Type 0 where
  pub setup : Setup
  pub of_files : IsSetupOf asked old.shelf.files setup
  pub lines : PrintsLines (setup_lines setup) old new answer.fault
  pub refused : answer.refused ≡ setup.judged.refused
  pub ran : answer.ran ≡ None
  pub start : answer.start ≡ None

-- how a call of `plan` ends, before the line of its fault is printed
abbrev pub EndsPlan : PlanAsked → World → World → Answer → Type 0
EndsPlan asked old new answer = StopsFor (IsNoSetup asked old.shelf.files) old new answer
    ⊎ PrintsSetup asked old new answer
