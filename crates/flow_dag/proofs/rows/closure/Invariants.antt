use Rattle.std.proofs.Common.{◌≡◌, ℕ, ◌<◌, ◌≤◌, ◌↔◌, slice_index}
use Rattle.flow_dag.specs.Rows.{RowHas}
use Rattle.flow_dag.proofs.ViaLemmas.{Via}
use Rattle.flow_dag.proofs.rows.closure.Given as goal

abbrev pub invariant-loop-k : goal.invariant-loop-k
invariant-loop-k l = record {
  walks : (a b : ℕ) → a < l.n → (RowHas l.below a b ↔ Via (RowHas l.fn.child) l.k a b);
  rest : (a : ℕ) → l.n ≤ a → slice_index l.below a ≡ slice_index l.fn.child a;
}
