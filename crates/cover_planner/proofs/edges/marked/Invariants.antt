use Rattle.std.proofs.Common.{◌≡◌, ℕ, ◌<◌, ◌↔◌}
use Rattle.std.specs.Prelude.{Some, slice_get}
use Rattle.flow_dag.specs.declared.edge.Edge.{Edge}
use Rattle.flow_dag.specs.Masks.{Has}
use Rattle.flow_dag.specs.Rows.{RowHas}
use Rattle.cover_planner.proofs.edges.marked.Given as goal

abbrev pub invariant-loop-i : goal.invariant-loop-i
invariant-loop-i l = (k : ℕ) → Has l.mask k ↔ ((k < l.i) × ((e : Edge) × (slice_get l.dag.edges k ≡ Some e) × RowHas l.children e.from e.to))
