use Rattle.std.proofs.Common.{◌≡◌, drop}
use Rattle.flow_model.specs.Topology.{first_with}
use Rattle.flow_model.proofs.topology.out_with.Given as goal

abbrev pub invariant-loop-out : goal.invariant-loop-out
invariant-loop-out l = first_with l.port (drop l.out-index l.outs) ≡ first_with l.port l.outs
