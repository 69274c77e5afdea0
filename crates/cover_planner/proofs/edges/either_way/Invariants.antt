use Rattle.std.proofs.Common.{◌≡◌, ℕ, ◌<◌, ◌↔◌, ◌⊎◌, length}
use Rattle.flow_dag.specs.Rows.{RowHas}
use Rattle.cover_planner.proofs.edges.either_way.Given as goal

abbrev pub invariant-loop-a : goal.invariant-loop-a
invariant-loop-a l = record {
  long : length l.joined ≡ 64;
  rows : (x b : ℕ) → RowHas l.joined x b ↔ ((x < l.a) × (RowHas l.children x b ⊎ RowHas l.parents x b));
}
