use Rattle.std.specs.Prelude.{ℕ, ◌↔◌, List}
use Rattle.flow_dag.specs.declared.edge.Edge.{Edge}
use Rattle.flow_dag.specs.declared.reach.Reach.{Reach}
use Rattle.flow_dag.specs.Rows.{RowHas}
use Rattle.flow_dag.specs.Paths.{Reaches}
use Rattle.flow_dag.specs.Edges.{HasEdge}

-- the rows have exactly the edges, and exactly the pairs of nodes between which a path leads
pub record IsReachOf (edges : List Edge) (reach : Reach) : Type 0 where
  pub children : (a b : ℕ) → RowHas reach.child a b ↔ HasEdge edges a b
  pub ancestors : (a b : ℕ) → RowHas reach.above b a ↔ Reaches (HasEdge edges) a b
  pub descendants : (a b : ℕ) → RowHas reach.below a b ↔ Reaches (HasEdge edges) a b
