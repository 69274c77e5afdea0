use Rattle.std.specs.Prelude.{◌≡◌, ℕ, ◌↔◌, ◌⊎◌, List, [], ◌∷◌, Some, slice_get}
use Rattle.flow_dag.specs.declared.edge.Edge.{Edge}
use Rattle.flow_dag.specs.Masks.{Has}
use Rattle.flow_dag.specs.Paths.{Leads, Reaches, IsOrReaches}

-- A cover is said of any members: `E a b` says that an edge leads from `a` to `b`, and `M a` that
-- `a` is a member.

-- `a` and then `b` stand next to each other in the list that `x` and then `rest` make
abbrev pub StandNext : ℕ → ℕ → ℕ → List ℕ → Type 0
StandNext a b x [] = ⊥
StandNext a b x (y ∷ rest) = ((x ≡ a) × (y ≡ b)) ⊎ StandNext a b y rest

-- the edge from `a` to `b` lies on the path
abbrev pub LiesOn : ℕ → ℕ → List ℕ → Type 0
LiesOn a b [] = ⊥
LiesOn a b (x ∷ rest) = StandNext a b x rest

-- the edge from `a` to `b` lies on a path from a member to a member
abbrev pub IsCoveredEdge : (ℕ → ℕ → Type 0) → (ℕ → Type 0) → ℕ → ℕ → Type 0
IsCoveredEdge E M a b =
    (from : ℕ) × (to : ℕ) × (path : List ℕ) × M from × M to × Leads E from to path
    × LiesOn a b path

-- a member, or an end of a covered edge
abbrev pub IsCoveredNode : (ℕ → ℕ → Type 0) → (ℕ → Type 0) → ℕ → Type 0
IsCoveredNode E M a = M a ⊎ ((b : ℕ) × (IsCoveredEdge E M a b ⊎ IsCoveredEdge E M b a))

-- a covered node with no covered edge into it
abbrev pub IsHead : (ℕ → ℕ → Type 0) → (ℕ → Type 0) → ℕ → Type 0
IsHead E M a = IsCoveredNode E M a × ((b : ℕ) → ¬ IsCoveredEdge E M b a)

-- a covered edge joins the two nodes, in either direction
abbrev pub AreJoined : (ℕ → ℕ → Type 0) → (ℕ → Type 0) → ℕ → ℕ → Type 0
AreJoined E M a b = IsCoveredEdge E M a b ⊎ IsCoveredEdge E M b a

-- the nodes are equal, or a chain of covered edges, each taken in either direction, joins them
abbrev pub InOnePart : (ℕ → ℕ → Type 0) → (ℕ → Type 0) → ℕ → ℕ → Type 0
InOnePart E M = IsOrReaches (AreJoined E M)

-- a member, or a node to which a path leads from one
abbrev pub IsDownstream : (ℕ → ℕ → Type 0) → (ℕ → Type 0) → ℕ → Type 0
IsDownstream E M a = M a ⊎ ((m : ℕ) × M m × Reaches E m a)

-- a member, or a node from which a path leads to one
abbrev pub IsUpstream : (ℕ → ℕ → Type 0) → (ℕ → Type 0) → ℕ → Type 0
IsUpstream E M a = M a ⊎ ((m : ℕ) × M m × Reaches E a m)

-- the mask has the places of exactly those edges of whose ends `C` holds
abbrev pub MarksEdges : List Edge → (ℕ → ℕ → Type 0) → ℕ → Type 0
MarksEdges edges C mask =
    (i : ℕ) → Has mask i ↔ ((e : Edge) × (slice_get edges i ≡ Some e) × C e.from e.to)
