-- The workers of a run, and its feeder, before and after.
use Rattle.std.specs.Prelude.{◌≡◌, ℕ, List, Bool, false, length, map, Some, slice_get}
use Rattle.std.specs.List.{All}
use Rattle.sink_journal.specs.declared.journal.Feed.{Feed}
use Rattle.flow_model.specs.Begin.{Begin}
use Rattle.flow_model.specs.Setup.{setup_view}
use Rattle.flow_model.specs.SetupView.{SetupView}
use Rattle.flow_worker.specs.Worker.{IsWorker, WorkerIs}
use Rattle.coordinator.specs.Feeding.{IsFeeder}
use Rattle.coordinator.specs.Views.{FeederIs}
use Rattle.lane_core.specs.Lane.{end_of}
use Rattle.flow_runner.specs.Rule.{HasItsEndpoints, HasEachOf, HasEnded, numbers}
use Rattle.flow_runner.specs.Runner.{EndpointsIs, RunnerIs, endpoints_of}
use Rattle.flow_runners.specs.declared.flow.Flow.{Flow}

abbrev pub crew_number : WorkerIs → ℕ
crew_number w = w.number

-- what no turn changes of a worker: its number and its endpoints
abbrev pub fixed_in : WorkerIs → ℕ × EndpointsIs
fixed_in w = (w.number, endpoints_of w)

-- the runner of a worker, before its first turn
abbrev pub runner_of : WorkerIs → RunnerIs
runner_of w = record { number = w.number; endpoints = endpoints_of w; is_done = false }

-- Workers in the order of their numbers, each with the law of a worker from the beginning on.
pub record AreWorkers (setup : SetupView) (begin : Begin) (workers : List WorkerIs) : Type 0 where
  pub number :
      (w : ℕ) (worker : WorkerIs) → slice_get workers w ≡ Some worker → worker.number ≡ w
  pub law :
      (w : ℕ) (worker : WorkerIs) → slice_get workers w ≡ Some worker →
      IsWorker setup begin worker

-- Runners that come back: each that the charter names, once, and done.
pub record AreBack (charter : List EndpointsIs) (rs : List RunnerIs) : Type 0 where
  pub once : HasEachOf (length charter) (numbers rs)
  pub agree : All (HasItsEndpoints charter) rs
  pub done : All HasEnded rs

-- the setup of what is run
abbrev pub setup_in : Flow → SetupView
setup_in flow = setup_view flow.setup.now

-- a feeder of what is run, from the beginning on
abbrev pub IsFeederOf : Bool → Flow → Begin → FeederIs → Type 0
IsFeederOf live flow begin f = IsFeeder live (setup_in flow) begin flow.rows.now f

-- What a feeder, which would leave `rest`, is after some turns: it has the law of a feeder from the
-- beginning on; its endpoints are the same; and what goes with a seed still does.
pub record HasFed {Seed Rest : Type 0} (live : Bool) (flow : Flow) (begin : Begin)
    (kept : Seed → List Feed → Rest → Type 0) (f : FeederIs) (rest : Rest)
    (g : FeederIs) (rest' : Rest) : Type 0 where
  pub law : IsFeederOf live flow begin g
  pub endpoints : map end_of g.outs ≡ map end_of f.outs
  pub kept_is : (seed : Seed) → kept seed f.feeds rest → kept seed g.feeds rest'
