use Rattle.std.proofs.Common.{◌≡◌, ◌≤◌, ◌+◌, ◌*◌, drop, slice_index}
use Rattle.jobs.specs.Weights.{weight_from}
use Rattle.jobs.proofs.weights.sum.Given as goal

abbrev pub invariant-loop-v : goal.invariant-loop-v
invariant-loop-v l =
    (l.sum ≤ l.v * 4294967295)
    × (l.sum + weight_from (slice_index l.weights) l.v (drop l.v l.nodes) ≡ weight_from (slice_index l.weights) 0 l.nodes)
