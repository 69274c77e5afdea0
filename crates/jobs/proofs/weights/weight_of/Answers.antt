use Rattle.std.proofs.Common.{◌∙◌, slice_index, arith}
use Rattle.jobs.specs.Weights.{node_weight}
use Rattle.jobs.proofs.WeightLemmas.{weight_from-same}
use Rattle.jobs.proofs.weights.weight_of.Goals as goal

pub sum-requires : goal.sum-requires
sum-requires c = omega (arith, c.requires, c.args.dag.now.lawful.size)

pub returns : goal.returns
returns c =
    c.sum.ensures
    ∙ weight_from-same (slice_index c.node_weights.result) (node_weight c.args.nodes.now c.args.dag.now.edges) 0 c.args.nodes.now (λ u below. c.node_weights.ensures u (omega (arith, below)))
