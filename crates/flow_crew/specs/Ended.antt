-- The end of a run.
use Rattle.std.specs.Prelude.{◌≡◌, List, length, map, true}
use Rattle.sink_journal.specs.declared.journal.Feed.{Feed}
use Rattle.tuple_trace.specs.declared.row.Row.{Row}
use Rattle.lane_core.specs.Lane.{EndpointIs}
use Rattle.flow_model.specs.Begin.{Begin}
use Rattle.flow_model.specs.SetupView.{SetupView}
use Rattle.flow_model.specs.Requests.{afters}
use Rattle.flow_model.specs.Run.{Ran, ran_as}
use Rattle.flow_model.specs.Workers.{workers_in}
use Rattle.flow_worker.specs.Pairs.{EachOne}
use Rattle.flow_worker.specs.Parts.{WorkedIs}
use Rattle.flow_worker.specs.Turning.{IsDone}
use Rattle.flow_worker.specs.Worker.{WorkerIs}
use Rattle.coordinator.specs.Feeding.{IsFeeding}
use Rattle.coordinator.specs.Views.{FeederIs}
use Rattle.flow_crew.specs.Crews.{IsCrew}
use Rattle.flow_crew.specs.Sides.{AreMatched, worker_side}

-- the workers of a run are done, and its feeder has stopped and left this feed and these endpoints
pub record IsOver (setup : SetupView) (begin : Begin) (rows : List Row) (workers : List WorkerIs)
    (feeds : List Feed) (outs : List EndpointIs) : Type 0 where
  pub starts : length begin.states ≡ length (workers_in setup.job)
  pub crew : IsCrew setup begin workers
  pub done : EachOne IsDone workers
  pub matched : AreMatched (map worker_side workers) outs
  pub feeder : FeederIs
  pub feeding : IsFeeding setup begin (afters setup.requests) rows feeder
  pub stopped : feeder.stopped ≡ true
  pub feeds_are : feeds ≡ feeder.feeds
  pub outs_are : outs ≡ feeder.outs

-- what a finished worker leaves
abbrev pub worked_of : WorkerIs → WorkedIs
worked_of worker =
    record { number = worker.number; journal = worker.journal; state = worker.counts }

-- the record of a run: its feed, and the journals and the counts of its workers
abbrev pub record_of : SetupView → List Feed → List WorkedIs → Ran
record_of setup feeds workers =
    ran_as setup feeds (map (λ (w : WorkedIs). w.journal) workers)
    (map (λ (w : WorkedIs). w.state) workers)
