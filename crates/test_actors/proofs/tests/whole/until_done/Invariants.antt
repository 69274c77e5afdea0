use Rattle.std.proofs.Common.{◌≡◌}
use Rattle.flow_model.specs.Begin.{at_first}
use Rattle.flow_model.specs.Setup.{setup_view}
use Rattle.flow_worker.specs.Worker.{IsWorker}
use Rattle.flow_crew.specs.Sides.{lane_ids}
use Rattle.test_actors.proofs.tests.whole.until_done.Given as goal

-- the worker has its law, its number and its lanes
abbrev pub invariant-loop-turn : goal.invariant-loop-turn
invariant-loop-turn g l = record {
  law : IsWorker (setup_view l.setup) (at_first (setup_view l.setup)) l.worker;
  number : l.worker.number ≡ l.fn.worker.number;
  lanes : lane_ids l.worker ≡ lane_ids l.fn.worker;
}
