-- Rows as they enter a flow.
use Rattle.std.specs.Prelude.{◌≡◌, ℕ, ◌+◌, List, [], slice_get, Some}
use Rattle.tuple_trace.specs.declared.row.Row.{Row}

-- a row with this number, in one piece, fed under no request, that was nowhere yet
pub record IsRow (number : ℕ) (row : Row) : Type 0 where
  pub numbered : row.tuple.row ≡ number
  pub unborn : row.tuple.birth ≡ []
  pub unissued : row.tuple.issued ≡ 0
  pub unmoved : row.tuple.trace ≡ []

-- the rows are numbered by their places, counted from 1
abbrev pub AreRows : List Row → Type 0
AreRows rows = (i : ℕ) (row : Row) → slice_get rows i ≡ Some row → IsRow (i + 1) row
