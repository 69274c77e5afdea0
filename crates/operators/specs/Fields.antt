-- The fields of a tuple, read and written by the kinds that the job gives its columns.
use Rattle.std.specs.Prelude.{ℕ, ℤ, List, Option, None, Some, is_some, slice_get, slice_set, if◌then◌else◌}
use Rattle.tuple_trace.specs.declared.value.Value.{Value}
use Rattle.tuple_trace.specs.Values.{as_number, as_text}
use Rattle.jobs.specs.declared.column.Column.{Column}
use Rattle.jobs.specs.declared.column.ColumnKind.{ColumnKind}
use Rattle.jobs.specs.Columns.{holds, kind_at}

-- a field, where it is there and a column of this kind may hold it
abbrev pub of_kind : Option ColumnKind → Option Value → Option Value
of_kind kind None = None
of_kind kind (Some field) = if holds kind field then Some field else None

-- the field of a column, where the tuple has it with the kind that the job gives the column
abbrev pub field_at : List Column → List Value → ℕ → Option Value
field_at columns fields column = of_kind (kind_at columns column) (slice_get fields column)

-- the column read as a number: 0 if the tuple has no number of the column's kind there
abbrev pub number_at : List Column → List Value → ℕ → ℤ
number_at columns fields column = as_number (field_at columns fields column)

-- the column read as a text: empty if the tuple has no text of the column's kind there
abbrev pub text_at : List Column → List Value → ℕ → List ℕ
text_at columns fields column = as_text (field_at columns fields column)

-- the fields with a value in a column: where the tuple doesn't have the column in its kind, nothing
-- is written
abbrev pub written_at : List Column → List Value → ℕ → Value → List Value
written_at columns fields column value =
    if is_some (field_at columns fields column) then slice_set fields column value else fields
