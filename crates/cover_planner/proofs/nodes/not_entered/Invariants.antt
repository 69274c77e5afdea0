use Rattle.std.proofs.Common.{ℕ, ◌<◌, ◌↔◌}
use Rattle.flow_dag.specs.Masks.{Has}
use Rattle.flow_dag.specs.Rows.{RowHas}
use Rattle.cover_planner.proofs.nodes.not_entered.Given as goal

abbrev pub invariant-loop-a : goal.invariant-loop-a
invariant-loop-a l = (x : ℕ) → Has l.heads x ↔ ((x < l.a) × (Has l.nodes x × ((b : ℕ) → RowHas l.parents x b → ⊥)))
