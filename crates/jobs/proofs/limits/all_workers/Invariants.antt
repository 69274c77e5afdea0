use Rattle.std.proofs.Common.{◌≡◌, ◌+◌, ◌*◌, ◌≤◌, drop}
use Rattle.jobs.specs.Nodes.{worker_count}
use Rattle.jobs.proofs.limits.all_workers.Given as goal

abbrev pub invariant-loop-node : goal.invariant-loop-node
invariant-loop-node l = (l.sum ≤ l.node-index * 4294967295) × (l.sum + worker_count (drop l.node-index l.nodes) ≡ worker_count l.nodes)
