use Rattle.std.proofs.Common.{◌≡◌, ◌+◌, ◌≤◌, drop}
use Rattle.jobs.specs.Ports.{out_count}
use Rattle.jobs.proofs.ports.out_count.Given as goal

abbrev pub invariant-loop-edge : goal.invariant-loop-edge
invariant-loop-edge l = (l.count ≤ l.edge-index) × (l.count + out_count (drop l.edge-index l.edges) l.node ≡ out_count l.edges l.node)
