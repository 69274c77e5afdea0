-- Which items may follow which on a lane.
use Rattle.std.specs.Prelude.{◌≡◌, ℕ, ◌<◌, ◌≤◌, ⊤, List, [], ◌∷◌, map, All, AllPairs}
use Rattle.flow_dag.specs.Graph.{IsEdge}
use Rattle.flow_dag.specs.Masks.{Has}
use Rattle.flow_dag.specs.Paths.{IsWalk, last_of}
use Rattle.flow_dag.specs.declared.graph.Graph.{Graph}
use Rattle.tuple_trace.specs.declared.tuple.Item.{Item}
use Rattle.tuple_trace.specs.declared.tuple.Item.TheVariants.{Carry, Mark, Last}
use Rattle.tuple_trace.specs.declared.tuple.Tuple.{Tuple}
use Rattle.lane_core.specs.declared.form.Origin.{Origin}

-- at each node of the cover that it visited, the tuple came before the request turned
abbrev pub IsOldAt : ℕ → ℕ → Tuple → Type 0
IsOldAt request cover tuple = All (λ visit. Has cover visit.node → visit.last < request) tuple.trace

-- at each node of the cover that it visited, the tuple came after the request had turned
abbrev pub IsNewAt : ℕ → ℕ → Tuple → Type 0
IsNewAt request cover tuple = All (λ visit. Has cover visit.node → request ≤ visit.last) tuple.trace

-- the second item agrees with the first, which stands before it, about which request came first
abbrev pub Agrees : Item → Item → Type 0
Agrees (Carry tuple) (Mark request cover) = IsOldAt request cover tuple
Agrees (Mark request cover) (Carry tuple) = IsNewAt request cover tuple
Agrees earlier later = ⊤

-- these nodes are a path that ends at the node; where there are none, no edge leads into it
abbrev pub ComesTo : Graph → ℕ → List ℕ → Type 0
ComesTo graph node [] = (a : ℕ) → ¬ IsEdge graph a node
ComesTo graph node (first ∷ rest) = IsWalk (IsEdge graph) first rest × last_of first rest ≡ node

-- a tuple has come to the lane's beginning along the edges of the graph
abbrev pub HasComeTo : Origin → Item → Type 0
HasComeTo origin (Carry tuple) =
    ComesTo origin.graph origin.from (map (λ visit. visit.node) tuple.trace)
HasComeTo origin (Mark request cover) = ⊤
HasComeTo origin Last = ⊤

-- the item may follow these on a lane with this origin
abbrev pub MayFollow : Origin → List Item → Item → Type 0
MayFollow origin before item = HasComeTo origin item × All (λ earlier. Agrees earlier item) before

-- each of the items may follow those before it
pub record IsSteady (origin : Origin) (items : List Item) : Type 0 where
  pub come : All (HasComeTo origin) items
  pub agree : AllPairs Agrees items
