use Rattle.std.proofs.Common.{◌≡◌, ℕ, ◌↔◌, length, take}
use Rattle.flow_dag.specs.Rows.{RowHas}
use Rattle.flow_dag.specs.Edges.{HasEdge, HaveDistinctEnds}
use Rattle.flow_dag.proofs.children.children.Given as goal

abbrev pub invariant-loop-i : goal.invariant-loop-i
invariant-loop-i l = record {
  long : length l.child ≡ 64;
  same : (a b : ℕ) → RowHas l.child a b ↔ HasEdge (take l.i l.edges) a b;
  distinct : HaveDistinctEnds (take l.i l.edges);
}
