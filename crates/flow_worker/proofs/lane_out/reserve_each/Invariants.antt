use Rattle.flow_worker.specs.Pairs.{FirstPairs}
use Rattle.flow_worker.specs.Endpoints.{Reserved}
use Rattle.flow_worker.proofs.lane_out.reserve_each.Given as goal

abbrev pub invariant-loop-out : goal.invariant-loop-out
invariant-loop-out g l = FirstPairs (Reserved l.more) l.out-index l.initial.out-items l.out-items
