use Rattle.std.proofs.Common.{◌≡◌, drop, slice_index}
use Rattle.std.specs.List.{fold}
use Rattle.jobs.specs.Weights.{with_edge}
use Rattle.jobs.proofs.weights.brought_to.Given as goal

abbrev pub invariant-loop-edge : goal.invariant-loop-edge
invariant-loop-edge l =
    fold (with_edge l.nodes (slice_index l.weights) l.v) l.sum (drop l.edge-index l.edges)
    ≡ fold (with_edge l.nodes (slice_index l.weights) l.v) 0 l.edges
