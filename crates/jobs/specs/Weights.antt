-- How many tuples one row may bring to a node.
use Rattle.std.specs.Prelude.{◌≡◌, ℕ, ◌+◌, ◌*◌, ◌==◌, List, [], ◌∷◌, length, Option, Some, None, fold, min, slice_get, zero, suc, if◌then◌else◌}
use Rattle.flow_dag.specs.declared.edge.Edge.{Edge}
use Rattle.jobs.specs.declared.func.Func.{Func}
use Rattle.jobs.specs.declared.func.NodeDef.{NodeDef}
use Rattle.jobs.specs.Nodes.{is_source, is_source_node}
use Rattle.jobs.specs.Places.{Each}
use Rattle.jobs.specs.JobView.{JobView}

-- how many tuples a node may send along an edge for one that it gets: its roof, whatever function
-- requests give it
abbrev pub fan_out_at : Option NodeDef → ℕ
fan_out_at None = 1
fan_out_at (Some node) = node.roof

-- a sum with what one edge more brings, cut at 2 ^ 20
abbrev pub with_more : ℕ → ℕ → ℕ → ℕ
with_more sum weight fan = min (sum + weight * fan) 1048576

-- the sum with what the edge brings to node `v`, where each node weighs what `weight` says
abbrev pub with_edge : List NodeDef → (ℕ → ℕ) → ℕ → ℕ → Edge → ℕ
with_edge nodes weight v sum edge =
    if edge.to == v then with_more sum (weight edge.from) (fan_out_at (slice_get nodes edge.from))
    else sum

-- the sum over the edges that enter node `v`, of the sender's weight times the sender's fan-out,
-- cut
abbrev pub brought_to : List NodeDef → List Edge → (ℕ → ℕ) → ℕ → ℕ
brought_to nodes edges weight v = fold (with_edge nodes weight v) 0 edges

-- a source weighs 1, and any other node what its edges bring
abbrev pub weighed : List NodeDef → List Edge → (ℕ → ℕ) → ℕ → ℕ
weighed nodes edges weight v =
    if is_source_node (slice_get nodes v) then 1 else brought_to nodes edges weight v

-- the weights after so many rounds: all are 0 at first, and each round weighs the nodes by the
-- weights of the round before
unfoldable pub weight_after : List NodeDef → List Edge → ℕ → ℕ → ℕ
weight_after nodes edges zero v = 0
weight_after nodes edges (suc rounds) v = weighed nodes edges (weight_after nodes edges rounds) v

-- the weight of a node: without a cycle, as many rounds as there are nodes settle it
abbrev pub node_weight : List NodeDef → List Edge → ℕ → ℕ
node_weight nodes edges v = weight_after nodes edges (length nodes) v

-- what a node adds to the weight of the job: a source adds nothing
abbrev pub added_by : Func → ℕ → ℕ
added_by func weight = if is_source func then 0 else weight

-- the sum of the weights of these last nodes, the first of which has number `v`; sources are left
-- out
abbrev pub weight_from : (ℕ → ℕ) → ℕ → List NodeDef → ℕ
weight_from weight v [] = 0
weight_from weight v (node ∷ nodes) =
    added_by node.func (weight v) + weight_from weight (v + 1) nodes

-- the weight of a job with these nodes and edges
abbrev pub weight_of : List NodeDef → List Edge → ℕ
weight_of nodes edges = weight_from (node_weight nodes edges) 0 nodes

-- the weight of a job: how many tuples one row may bring to its nodes that aren't sources
abbrev pub weight : JobView → ℕ
weight job = weight_of job.nodes job.edges

-- every node weighs what its senders' weights make
abbrev pub HasSettledWeights : JobView → Type 0
HasSettledWeights job =
    Each (λ v node. node_weight job.nodes job.edges v
    ≡ weighed job.nodes job.edges (node_weight job.nodes job.edges) v) job.nodes
