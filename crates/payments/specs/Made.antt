-- The rows that a generator makes in place of a payments file.
use Rattle.std.specs.Prelude.{◌+◌, ◌*◌, ◌/◌, ◌%◌, ◌^◌, ℕ, zero, suc, pos, List, [], ◌∷◌, length}
use Rattle.std.specs.Prelude.{get_or, nat_le, Result, Ok, Err, if◌then◌else◌}
use Rattle.tuple_trace.specs.declared.row.Row.{Row}
use Rattle.tuple_trace.specs.declared.value.Value.{Value}
use Rattle.tuple_trace.specs.declared.value.Value.TheVariants as value
use Rattle.jobs.specs.Nodes.{is_source}
use Rattle.jobs.specs.Weights.{weight}
use Rattle.jobs.specs.JobView.{JobView}
use Rattle.jobs.specs.declared.column.Column.{Column}
use Rattle.jobs.specs.declared.column.ColumnKind.{ColumnKind}
use Rattle.jobs.specs.declared.column.ColumnKind.TheVariants as kind
use Rattle.jobs.specs.declared.func.NodeDef.{NodeDef}
use Rattle.payments.specs.declared.read.PFault.{PFault}
use Rattle.payments.specs.declared.read.PFault.TheVariants as fault
use Rattle.payments.specs.Reading.{first_value, work_max}

-- the generator's number after a draw
abbrev pub number_after : ℕ → ℕ
number_after number = (number * 6364136223846793005 + 1442695040888963407) % 2 ^ 64

-- what the draw that gave the generator this number gives
abbrev pub draw_of : ℕ → ℕ
draw_of number = number / 2 ^ 33

-- the last decimal digit of a number, in ASCII
abbrev pub last_digit : ℕ → ℕ
last_digit number = 48 + number % 10

-- a text of three pieces, as `k1;k0;k9`: the last three digits of the draw, the last one first
abbrev pub text_made : ℕ → List ℕ
text_made draw =
    107 ∷ last_digit draw
    ∷ 59 ∷ 107 ∷ last_digit (draw / 10)
    ∷ 59 ∷ 107 ∷ last_digit (draw / 100)
    ∷ []

-- the value of a draw, for a column of this kind
abbrev pub value_made : ColumnKind → ℕ → Value
value_made kind.Text draw = value.Text (text_made draw)
value_made kind.Number draw = value.Num (pos (draw % 20001))
value_made kind.Cents draw = value.Num (pos (draw % 20001))

-- the generator's number after the field of a column: an own column takes no draw
abbrev pub number_after_field : Column → ℕ → ℕ
number_after_field column number = if column.own then number else number_after number

-- the field of a column
abbrev pub field_made : Column → ℕ → Value
field_made column number =
    if column.own then first_value column.kind
    else value_made column.kind (draw_of (number_after number))

-- the fields of these columns, one draw for each that isn't own
unfoldable pub fields_made : List Column → ℕ → List Value
fields_made [] number = []
fields_made (column ∷ columns) number =
    field_made column number ∷ fields_made columns (number_after_field column number)

-- the generator's number after the fields of these columns
unfoldable pub number_after_fields : List Column → ℕ → ℕ
number_after_fields [] number = number
number_after_fields (column ∷ columns) number =
    number_after_fields columns (number_after_field column number)

-- the numbers of the sources among these nodes, the first of which has this number
unfoldable pub sources_from : ℕ → List NodeDef → List ℕ
sources_from place [] = []
sources_from place (node ∷ nodes) =
    if is_source node.func then place ∷ sources_from (place + 1) nodes
    else sources_from (place + 1) nodes

-- the source that a draw picks
abbrev pub source_made : List NodeDef → ℕ → ℕ
source_made nodes draw = get_or (sources_from 0 nodes) (draw % length (sources_from 0 nodes)) 0

-- the row with this number: a draw for its source, also if there is only one, and then its fields
abbrev pub row_made : JobView → ℕ → ℕ → Row
row_made job number row = record {
  source = source_made job.nodes (draw_of (number_after number));
  tuple = record {
    row = row;
    birth = [];
    issued = 0;
    fields = fields_made job.columns (number_after number);
    trace = [];
  };
}

-- the generator's number after a row
abbrev pub number_after_row : JobView → ℕ → ℕ
number_after_row job number = number_after_fields job.columns (number_after number)

-- `count` rows, of which the first has the number `row`
unfoldable pub rows_made_from : JobView → ℕ → ℕ → ℕ → List Row
rows_made_from job number row zero = []
rows_made_from job number row (suc count) =
    row_made job number row ∷ rows_made_from job (number_after_row job number) (row + 1) count

-- the rows that are made, or the first row that is too much for the job. The generator's number
-- starts as the seed
abbrev pub made_rows : JobView → ℕ → ℕ → Result (List Row) PFault
made_rows job seed count =
    if nat_le (count * weight job) work_max then Ok (rows_made_from job seed 1 count)
    else Err (fault.TooMuch (work_max / weight job + 1))
