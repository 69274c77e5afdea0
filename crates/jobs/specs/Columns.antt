-- Columns and what they hold.
use Rattle.std.specs.Prelude.{ℕ, Bool, true, false, List, length, nat_lt, Option, Some, None, option_map, slice_get}
use Rattle.tuple_trace.specs.declared.value.Value.{Value}
use Rattle.tuple_trace.specs.declared.value.Value.TheVariants as value
use Rattle.jobs.specs.declared.column.Column.{Column}
use Rattle.jobs.specs.declared.column.ColumnKind.{ColumnKind}
use Rattle.jobs.specs.declared.column.ColumnKind.TheVariants as kind

-- there is a column with this number
abbrev pub has_column : List Column → ℕ → Bool
has_column columns column = nat_lt column (length columns)

-- the kind of the column with this number, if there is one
abbrev pub kind_at : List Column → ℕ → Option ColumnKind
kind_at columns column = option_map (λ (c : Column). c.kind) (slice_get columns column)

-- there is a column, and it holds texts
abbrev pub is_text : Option ColumnKind → Bool
is_text None = false
is_text (Some kind.Text) = true
is_text (Some kind.Number) = false
is_text (Some kind.Cents) = false

-- there is a column of numbers: those of cents are among them
abbrev pub is_amount : Option ColumnKind → Bool
is_amount None = false
is_amount (Some kind.Text) = false
is_amount (Some kind.Number) = true
is_amount (Some kind.Cents) = true

-- there is a column of this kind, and it may hold the value
abbrev pub holds : Option ColumnKind → Value → Bool
holds kind (value.Num number) = is_amount kind
holds kind (value.Text text) = is_text kind
