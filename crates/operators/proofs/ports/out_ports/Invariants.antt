use Rattle.std.proofs.Common.{◌≡◌, take}
use Rattle.operators.specs.Ports.{out_ports}
use Rattle.operators.proofs.ports.out_ports.Given as goal

abbrev pub invariant-loop-edge : goal.invariant-loop-edge
invariant-loop-edge l = l.ports ≡ out_ports (take l.edge-index l.edges) l.node
