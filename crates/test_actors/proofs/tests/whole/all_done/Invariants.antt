use Rattle.std.proofs.Common.{◌≡◌, map}
use Rattle.flow_model.specs.Begin.{at_first}
use Rattle.flow_model.specs.Setup.{setup_view}
use Rattle.flow_worker.specs.Pairs.{EachOne}
use Rattle.flow_worker.specs.Turning.{IsDone}
use Rattle.flow_worker.specs.Worker.{IsWorker, WorkerIs}
use Rattle.flow_crew.specs.Sides.{lane_ids}
use Rattle.test_actors.proofs.tests.whole.all_done.Given as goal

-- the workers so far are done, and have their law, their numbers and their lanes
abbrev pub invariant-loop-worker : goal.invariant-loop-worker
invariant-loop-worker g l = record {
  law : EachOne (IsWorker (setup_view l.setup) (at_first (setup_view l.setup))) l.done.items;
  done : EachOne IsDone l.done.items;
  number : map (λ (w : WorkerIs). w.number) l.done.items ≡ map (λ (w : WorkerIs). w.number) l.yielded;
  lanes : map lane_ids l.done.items ≡ map lane_ids l.yielded;
}
