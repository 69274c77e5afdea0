use Rattle.std.proofs.Common.{◌≡◌, map}
use Rattle.std.specs.List.{range_with_len}
use Rattle.flow_model.specs.Topology.{numbers_in}
use Rattle.flow_model.proofs.tables.numbers_in_each.Given as goal

abbrev pub invariant-loop-worker : goal.invariant-loop-worker
invariant-loop-worker l = l.into ≡ map (numbers_in l.all) (range_with_len 0 l.worker)
