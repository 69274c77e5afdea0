use Rattle.std.proofs.Common.{◌≡◌, ℕ, ◌<◌, ◌↔◌, length}
use Rattle.flow_dag.specs.Rows.{RowHas}
use Rattle.flow_dag.proofs.rows.transposed.Given as goal

abbrev pub invariant-loop-a : goal.invariant-loop-a
invariant-loop-a l = record {
  long : length l.transposed ≡ 64;
  turned : (x b : ℕ) → RowHas l.transposed x b ↔ ((x < l.a) × RowHas l.rows b x);
}
