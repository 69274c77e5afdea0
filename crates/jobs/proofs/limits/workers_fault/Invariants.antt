use Rattle.std.proofs.Common.{◌≡◌, drop}
use Rattle.jobs.specs.Limits.{first_oversize, workers_oversize}
use Rattle.jobs.proofs.limits.workers_fault.Given as goal

abbrev pub invariant-loop-node : goal.invariant-loop-node
invariant-loop-node l = first_oversize workers_oversize (drop l.node-index l.nodes) ≡ first_oversize workers_oversize l.nodes
