use Rattle.std.proofs.Common.{◌≡◌, map}
use Rattle.flow_crew.specs.Ended.{worked_of}
use Rattle.flow_crew.specs.Sides.{worker_side}
use Rattle.flow_crew.proofs.ended.finish_all.Given as goal

-- what the workers so far leave, and their endpoints
abbrev pub invariant-loop-worker : goal.invariant-loop-worker
invariant-loop-worker g l = record {
  finished : l.finished.items ≡ map worked_of l.yielded;
  sides : l.sides.items ≡ map worker_side l.yielded;
}
