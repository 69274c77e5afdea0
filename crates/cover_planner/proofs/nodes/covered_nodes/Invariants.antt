use Rattle.std.proofs.Common.{ℕ, ◌<◌, ◌↔◌, ◌⊎◌}
use Rattle.flow_dag.specs.Masks.{Has}
use Rattle.flow_dag.specs.Rows.{RowHas}
use Rattle.cover_planner.proofs.nodes.covered_nodes.Given as goal

abbrev pub invariant-loop-a : goal.invariant-loop-a
invariant-loop-a l = (x : ℕ) → Has l.nodes x ↔ (Has l.members x ⊎ ((x < l.a) × ((b : ℕ) × RowHas l.joined x b)))
