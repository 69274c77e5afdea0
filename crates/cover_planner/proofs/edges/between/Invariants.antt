use Rattle.std.proofs.Common.{◌≡◌, ℕ, ◌<◌, ◌↔◌, length}
use Rattle.flow_dag.specs.Masks.{Has}
use Rattle.flow_dag.specs.Rows.{RowHas}
use Rattle.cover_planner.proofs.edges.between.Given as goal

abbrev pub invariant-loop-a : goal.invariant-loop-a
invariant-loop-a l = record {
  long : length l.kept ≡ 64;
  rows : (x b : ℕ) → RowHas l.kept x b ↔ ((x < l.a) × (RowHas l.rows x b × Has l.from x × Has l.to b));
}
