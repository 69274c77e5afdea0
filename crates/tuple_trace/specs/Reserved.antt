-- What contracts see of a list that grows within reserved memory.
use Rattle.std.specs.Prelude.{ℕ, List}

-- the items, and how many items there is memory for
pub record ReservedIs (T : Type 0) : Type 0 where
  pub items : List T
  pub memory : ℕ
