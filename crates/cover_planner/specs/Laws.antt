use Rattle.std.specs.Prelude.{ℕ, List}
use Rattle.flow_dag.specs.declared.edge.Edge.{Edge}
use Rattle.flow_dag.specs.Masks.{Has}
use Rattle.flow_dag.specs.Paths.{Leads, Reaches, IsOrReaches}
use Rattle.flow_dag.specs.Edges.{HasEdge}
use Rattle.cover_planner.specs.Cover.{LiesOn, IsCoveredEdge, IsCoveredNode, IsHead}

-- where a path leads from a covered node to a covered node, each edge on it is covered
abbrev pub PathsStayCovered : Type 0
PathsStayCovered =
    (edges : List Edge) (members a b : ℕ) (path : List ℕ) →
    IsCoveredNode (HasEdge edges) (Has members) a → IsCoveredNode (HasEdge edges) (Has members) b →
    Leads (HasEdge edges) a b path →
    (x y : ℕ) → LiesOn x y path → IsCoveredEdge (HasEdge edges) (Has members) x y

-- where a path from a covered node has come to a node that isn't covered, it leads to no covered
-- node any more
abbrev pub PathsNeverReturn : Type 0
PathsNeverReturn =
    (edges : List Edge) (members a x b : ℕ) →
    IsCoveredNode (HasEdge edges) (Has members) a → Reaches (HasEdge edges) a x →
    ¬ IsCoveredNode (HasEdge edges) (Has members) x →
    IsOrReaches (HasEdge edges) x b → ¬ IsCoveredNode (HasEdge edges) (Has members) b

-- no path leads from a covered node to a head
abbrev pub NoPathToHead : Type 0
NoPathToHead =
    (edges : List Edge) (members a b : ℕ) →
    IsCoveredNode (HasEdge edges) (Has members) a → IsHead (HasEdge edges) (Has members) b →
    ¬ Reaches (HasEdge edges) a b
