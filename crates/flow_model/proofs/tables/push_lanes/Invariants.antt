use Rattle.std.proofs.Common.{◌≡◌, ◌++◌}
use Rattle.flow_model.specs.Topology.{lanes_to}
use Rattle.flow_model.proofs.tables.push_lanes.Given as goal

abbrev pub invariant-loop-place : goal.invariant-loop-place
invariant-loop-place l = l.all ≡ l.fn.all ++ lanes_to l.edge l.sender l.first l.place
