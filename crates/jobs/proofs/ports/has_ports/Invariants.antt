use Rattle.std.proofs.Common.{◌≡◌, true}
use Rattle.jobs.specs.Ports.{has_ports}
use Rattle.jobs.proofs.ports.has_ports.Given as goal

abbrev pub invariant-loop-port : goal.invariant-loop-port
invariant-loop-port l = has_ports l.edges l.node l.port ≡ true
