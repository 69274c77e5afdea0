use Rattle.std.proofs.Common.{◌≡◌, map}
use Rattle.std.specs.List.{range_with_len}
use Rattle.flow_model.specs.Topology.{numbers_out}
use Rattle.flow_model.proofs.tables.numbers_out_each.Given as goal

abbrev pub invariant-loop-worker : goal.invariant-loop-worker
invariant-loop-worker l = l.from ≡ map (numbers_out l.all) (range_with_len 0 l.worker)
