use Rattle.std.proofs.Common.{◌≡◌, vec_len, length, map}
use Rattle.std.specs.List.{All, range_with_len}
use Rattle.crossbeam_queue.specs.SegTies.{IsSegPassOf}
use Rattle.flow_model.specs.Setup.{setup_view}
use Rattle.flow_worker.specs.Worker.{IsWorker}
use Rattle.flow_runners.specs.Crew.{crew_number, runner_of}
use Rattle.flow_runner.specs.Rule.{AreListed}
use Rattle.flow_runners.proofs.crew.push_all.Given as goal

abbrev pub invariant-loop-worker : goal.invariant-loop-worker
invariant-loop-worker g l = record {
  queue : IsSegPassOf l.queue l.pass;
  parts : l.pass.me.view.client.parts ≡ 16;
  listed : AreListed g.C.Charter.endpoints (map runner_of l.workers.items) l.pass.me.view.client.list;
  numbers : map crew_number l.workers.items ≡ range_with_len 0 (length l.workers.items);
  law : All (IsWorker (setup_view l.setup) g.C.Charter.begin) l.workers.items;
}

abbrev pub decreases-loop-worker : goal.decreases-loop-worker
decreases-loop-worker g l = vec_len l.workers
