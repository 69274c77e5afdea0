use Rattle.std.proofs.Common.{◌≡◌, ◌+◌, ◌≤◌, drop}
use Rattle.jobs.specs.Names.{named_out_count}
use Rattle.jobs.proofs.names.named_out_count.Given as goal

abbrev pub invariant-loop-edge : goal.invariant-loop-edge
invariant-loop-edge l =
    (l.count ≤ l.edge-index)
    × (l.count + named_out_count l.nodes (drop l.edge-index l.edges) l.name ≡ named_out_count l.nodes l.edges l.name)
