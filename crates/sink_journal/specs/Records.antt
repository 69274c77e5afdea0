-- The text of records.
use Rattle.std.specs.Prelude.{ℕ, List}
use Rattle.std.specs.List.{flat_map}
use Rattle.csv.specs.Writing.{default_writer, row_text}

-- a record, each field quoted where it needs it
abbrev pub record_text : List (List ℕ) → List ℕ
record_text fields = row_text default_writer fields

-- records, one after the other
abbrev pub records_text : List (List (List ℕ)) → List ℕ
records_text records = flat_map record_text records
