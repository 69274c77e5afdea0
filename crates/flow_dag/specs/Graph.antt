use Rattle.std.specs.Prelude.{ℕ}
use Rattle.flow_dag.specs.declared.graph.Graph.{Graph}
use Rattle.flow_dag.specs.Rows.{RowHas}

-- an edge of the graph leads from `a` to `b`
abbrev pub IsEdge : Graph → ℕ → ℕ → Type 0
IsEdge graph a b = RowHas graph.child a b
