use Rattle.std.proofs.Common.{◌≡◌, ◌<◌, ℕ, length, slice_index}
use Rattle.jobs.specs.Weights.{weight_after}
use Rattle.jobs.proofs.weights.node_weights.Given as goal

abbrev pub invariant-loop-i : goal.invariant-loop-i
invariant-loop-i l =
    (length l.weights ≡ 64)
    × ((k : ℕ) → k < l.i → slice_index l.weights (slice_index l.dag.order k) ≡ weight_after l.nodes l.dag.edges l.dag.nodes (slice_index l.dag.order k))
