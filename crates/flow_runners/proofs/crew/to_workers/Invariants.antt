use Rattle.std.proofs.Common.{◌≡◌, ◌≤◌, ◌+◌, ◌++◌, length, map}
use Rattle.std.specs.List.{All}
use Rattle.std.specs.Vec.{vec_capacity}
use Rattle.std.specs.Vec.Iter.{into_iter_items, into_iter_len}
use Rattle.flow_worker.specs.Turning.{IsDone}
use Rattle.flow_worker.specs.Worker.{IsWorker}
use Rattle.flow_runners.specs.Crew.{fixed_in}
use Rattle.flow_runner.specs.Rule.{HasEnded, fixed_of}
use Rattle.flow_runners.proofs.crew.to_workers.Given as goal

-- the workers so far, with the runners that are left, are those of all runners
abbrev pub invariant-loop-runner : goal.invariant-loop-runner
invariant-loop-runner g l = record {
  may : (goal.iterator-loop-runner g).can_next l.runner-iterator;
  finite : (goal.iterator-loop-runner g).is_finite l.runner-iterator;
  counted : into_iter_len l.runner-iterator ≡ length (into_iter_items l.runner-iterator);
  room : length l.workers.items + length (into_iter_items l.runner-iterator) ≤ vec_capacity l.workers;
  ended : All HasEnded (into_iter_items l.runner-iterator);
  fixed : map fixed_in l.workers.items ++ map fixed_of (into_iter_items l.runner-iterator) ≡ map fixed_of l.fn.runners.items;
  law : All (IsWorker g.C.Charter.setup g.C.Charter.begin) l.workers.items;
  done : All IsDone l.workers.items;
}
