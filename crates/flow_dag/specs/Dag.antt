use Rattle.std.specs.Prelude.{ℕ, ◌≤◌, List, length, All}
use Rattle.flow_dag.specs.declared.edge.Edge.{Edge}
use Rattle.flow_dag.specs.declared.limits.TheConstants.{MAX_EDGES, MAX_NODES}
use Rattle.flow_dag.specs.Paths.{IsAcyclic}
use Rattle.flow_dag.specs.Edges.{HasEdge, IsInside, HaveDistinctEnds}
use Rattle.flow_dag.specs.Order.{IsTopologicalOrder}

-- the edges join the nodes, no two have the same ends, they form no cycle, and the order leads each
-- of them forward
pub record IsDag (nodes : ℕ) (edges : List Edge) (order : List ℕ) : Type 0 where
  pub some : 1 ≤ nodes
  pub size : nodes ≤ MAX_NODES
  pub count : length edges ≤ MAX_EDGES
  pub inside : All (IsInside nodes) edges
  pub distinct : HaveDistinctEnds edges
  pub acyclic : IsAcyclic (HasEdge edges)
  pub ordered : IsTopologicalOrder (HasEdge edges) nodes order

-- a `Dag` as contracts see it
pub record DagView : Type 0 where
  pub nodes : ℕ
  pub edges : List Edge
  pub order : List ℕ
  pub lawful : IsDag nodes edges order
