-- Rows that are fed, with blank ones in place of those that were fed before.
use Rattle.std.specs.Prelude.{◌≡◌, ℕ, ◌+◌, List, [], Some, map, slice_get}
use Rattle.std.specs.List.{range_with_len}
use Rattle.tuple_trace.specs.Rows.{IsRow}
use Rattle.tuple_trace.specs.declared.row.Row.{Row}

-- a row from this source that is numbered by its place, and has no fields
abbrev pub blank : ℕ → ℕ → Row
blank source place = record {
  source = source;
  tuple = record { row = place + 1; birth = []; issued = 0; fields = []; trace = [] };
}

-- this number of blank rows
abbrev pub blanks : ℕ → ℕ → List Row
blanks source count = map (blank source) (range_with_len 0 count)

-- the rows are numbered on after this number of others
abbrev pub AreRowsAfter : ℕ → List Row → Type 0
AreRowsAfter count rows =
    (i : ℕ) (row : Row) → slice_get rows i ≡ Some row → IsRow (count + i + 1) row
