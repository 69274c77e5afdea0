-- The setup of a whole stream, as if all its requests had been there when it began.
use Rattle.std.specs.Prelude.{Bool, List, Some}
use Rattle.jobs.specs.JobView.{JobView}
use Rattle.tuple_trace.specs.declared.row.Row.{Row}
use Rattle.versions.specs.Judged.{judged_within}
use Rattle.versions.specs.declared.request.Request.{Request}
use Rattle.flow_model.specs.Planned.{IsExactForStream}
use Rattle.flow_model.specs.declared.setup.Setup.{Setup}
use Rattle.stream_intake.specs.Intake.{IsMaskOfNodes}
use Rattle.fries_steps.specs.Running.{IsRunUnder}
use Rattle.fries_steps.specs.SetupFor.{IsSetupWith}
use Rattle.fries_steps.specs.declared.running.Done.{Done}

-- The setup is that of a job and these requests, judged as a stream judges them. Its splits are the
-- nodes that the job makes splits, and those that a request may make one.
pub record IsStreamSetupFor (Keeps : List Request → List Request → Type 0) (ordered : Bool)
    (job : JobView) (requests : List Request) (setup : Setup) : Type 0 where
  pub made : IsSetupWith IsExactForStream Keeps ordered job
      (judged_within (Some setup.splits) job requests) setup
  pub splits : IsMaskOfNodes job.nodes setup.splits

-- The rows were run by the setup of a stream of the job and its requests in this mode. How the
-- requests of the record relate to those that judging accepts is told by `Keeps`.
abbrev pub IsStreamRunOf : (List Request → List Request → Type 0) → Bool → JobView → List Request →
    List Row → Done → Type 0
IsStreamRunOf Keeps ordered job requests rows done =
    IsRunUnder (IsStreamSetupFor Keeps ordered job requests) requests rows done
