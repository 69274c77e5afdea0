use Rattle.std.proofs.Common.{rules}
use Rattle.jobs.specs.Ports.{are_ports}
use Rattle.jobs.proofs.ports.are_ports.Goals as goal

pub returns : goal.returns
unfolding are_ports
returns c = search rules
