use Rattle.std.proofs.Common.{ℕ, ◌<◌, ◌↔◌}
use Rattle.flow_dag.specs.Masks.{Has}
use Rattle.flow_dag.specs.Rows.{RowHas}
use Rattle.flow_dag.proofs.rows.column.Given as goal

abbrev pub invariant-loop-a : goal.invariant-loop-a
invariant-loop-a l = (x : ℕ) → Has l.column x ↔ ((x < l.a) × RowHas l.rows x l.node)
