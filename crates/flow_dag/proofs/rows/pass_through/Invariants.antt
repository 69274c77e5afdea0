use Rattle.std.proofs.Common.{◌≡◌, ℕ, ◌<◌, ◌≤◌, slice_index}
use Rattle.flow_dag.specs.Rows.{GainsRow}
use Rattle.flow_dag.proofs.rows.pass_through.Given as goal

abbrev pub invariant-loop-a : goal.invariant-loop-a
invariant-loop-a l = record {
  done : (x b : ℕ) → x < l.a → GainsRow l.initial.rows l.k l.rows x b;
  rest : (x : ℕ) → l.a ≤ x → slice_index l.rows x ≡ slice_index l.initial.rows x;
}
