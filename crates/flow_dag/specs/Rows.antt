use Rattle.std.specs.Prelude.{ℕ, List, slice_index, ◌↔◌, ◌⊎◌}
use Rattle.flow_dag.specs.Masks.{Has}

-- A list of masks is a relation: each node has a row, and the row has the nodes to which it is
-- related.

-- row `a` has node `b`
abbrev pub RowHas : List ℕ → ℕ → ℕ → Type 0
RowHas rows a b = Has (slice_index rows a) b

-- row `a` has gained what row `k` has, where it had `k`
abbrev pub GainsRow : List ℕ → ℕ → List ℕ → ℕ → ℕ → Type 0
GainsRow old k new a b = RowHas new a b ↔ (RowHas old a b ⊎ (RowHas old a k × RowHas old k b))
