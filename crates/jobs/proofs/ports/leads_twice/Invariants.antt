use Rattle.std.proofs.Common.{◌≡◌, drop}
use Rattle.jobs.specs.Ports.{leads_twice}
use Rattle.jobs.proofs.ports.leads_twice.Given as goal

abbrev pub invariant-loop-i : goal.invariant-loop-i
invariant-loop-i l = leads_twice (drop l.i l.edges) l.node ≡ leads_twice l.edges l.node
