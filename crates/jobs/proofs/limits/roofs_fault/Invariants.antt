use Rattle.std.proofs.Common.{◌≡◌, drop}
use Rattle.jobs.specs.Limits.{first_oversize, roof_oversize}
use Rattle.jobs.proofs.limits.roofs_fault.Given as goal

abbrev pub invariant-loop-node : goal.invariant-loop-node
invariant-loop-node l =
    first_oversize (roof_oversize l.nodes l.edges) (drop l.node-index l.nodes) ≡ first_oversize (roof_oversize l.nodes l.edges) l.nodes
