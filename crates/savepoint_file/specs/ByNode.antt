-- The records of counts, written node by node.
use Rattle.std.specs.Prelude.{ℕ, ◌+◌, List, [], ◌∷◌, ◌++◌, map, take, drop}
use Rattle.std.specs.FinMap.{entries}
use Rattle.jobs.specs.Nodes.{workers_of}
use Rattle.jobs.specs.declared.func.NodeDef.{NodeDef}
use Rattle.keyed_state.specs.Counts.{Counts}
use Rattle.savepoint.specs.SaveText.{count_record}

-- the counts of a node's workers, from this place on
abbrev pub node_records : List ℕ → ℕ → List Counts → List (List (List ℕ))
node_records name place [] = []
node_records name place (counts ∷ states) =
    map (count_record name place) (entries counts) ++ node_records name (place + 1) states

-- the counts of nodes, each of which has as many of the states as it has workers
abbrev pub nodes_count_records : List NodeDef → List Counts → List (List (List ℕ))
nodes_count_records [] states = []
nodes_count_records (node ∷ nodes) states =
    node_records node.name 0 (take (workers_of node) states)
    ++ nodes_count_records nodes (drop (workers_of node) states)
