-- The rows of a payments file.
use Rattle.std.specs.Prelude.{◌+◌, ◌*◌, ◌&&◌, ℕ, pos, Bool, false, not, List, [], ◌∷◌, length, map}
use Rattle.std.specs.Prelude.{filter, drop, position, option_map, nat_le, nat_eq, codes, Option}
use Rattle.std.specs.Prelude.{None, Some, Result, Ok, Err, if◌then◌else◌}
use Rattle.std.specs.Option.{ok_or}
use Rattle.std.specs.Cmp.Lexicographic.{pointwise}
use Rattle.csv.specs.Reading.{default_config, records, strip_bom}
use Rattle.tuple_trace.specs.declared.row.Row.{Row}
use Rattle.tuple_trace.specs.declared.value.Value.{Value}
use Rattle.tuple_trace.specs.declared.value.Value.TheVariants as value
use Rattle.jobs.specs.Nodes.{is_source}
use Rattle.jobs.specs.Weights.{weight}
use Rattle.jobs.specs.JobView.{JobView}
use Rattle.jobs.specs.declared.column.Column.{Column}
use Rattle.jobs.specs.declared.column.ColumnKind.{ColumnKind}
use Rattle.jobs.specs.declared.column.ColumnKind.TheVariants as kind
use Rattle.jobs.specs.declared.func.NodeDef.{NodeDef}
use Rattle.payments.specs.declared.read.PFault.{PFault}
use Rattle.payments.specs.declared.read.PFault.TheVariants as fault
use Rattle.payments.specs.Spelling.{amount_of, number_in_text}
use Rattle.jobs.specs.declared.limits.TheConstants.{TEXT_MAX}

-- the names of the columns that a payments file has
abbrev pub given_names : List Column → List (List ℕ)
given_names columns = map (λ column. column.name) (filter (λ column. not column.own) columns)

-- the first record of a payments file
abbrev pub header_of : JobView → List (List ℕ)
header_of job = codes "source" ∷ given_names job.columns

-- the first of these cells is this text
abbrev pub begins_with : List ℕ → List (List ℕ) → Bool
begins_with text [] = false
begins_with text (cell ∷ cells) = pointwise nat_eq cell text

-- a source with this name
abbrev pub is_source_with : List ℕ → NodeDef → Bool
is_source_with name node = is_source node.func && pointwise nat_eq node.name name

-- the number of the source with this name
abbrev pub source_named : JobView → List ℕ → Option ℕ
source_named job name = position (is_source_with name) job.nodes

-- what a cell of a row stands for in the column at this place
abbrev pub cell_value : ℕ → ℕ → ColumnKind → List ℕ → Result Value PFault
cell_value row place kind.Text cell =
    if nat_le (length cell) TEXT_MAX then Ok (value.Text cell)
    else Err (fault.TextLong row place)
cell_value row place kind.Number cell =
    ok_or (option_map value.Num (number_in_text cell)) (fault.Value row place)
cell_value row place kind.Cents cell =
    ok_or (option_map value.Num (amount_of cell)) (fault.Value row place)

-- what an own column starts as
abbrev pub first_value : ColumnKind → Value
first_value kind.Text = value.Text []
first_value kind.Number = value.Num (pos 0)
first_value kind.Cents = value.Num (pos 0)

-- one more before a list, or the first fault
abbrev pub before : {A : Type 0} → Result A PFault → Result (List A) PFault → Result (List A) PFault
before (Err fault) later = Err fault
before (Ok first) (Err fault) = Err fault
before (Ok first) (Ok later) = Ok (first ∷ later)

-- the first of the cells that are left
abbrev pub first_cell : List (List ℕ) → List ℕ
first_cell [] = []
first_cell (cell ∷ cells) = cell

-- the field of the column at this place: what it starts as where it is own, else what the first
-- cell stands for
abbrev pub field_of : ℕ → ℕ → Column → List (List ℕ) → Result Value PFault
field_of row place column cells =
    if column.own then Ok (first_value column.kind)
    else cell_value row place column.kind (first_cell cells)

-- the cells that a column leaves for those behind it
abbrev pub cells_behind : Column → List (List ℕ) → List (List ℕ)
cells_behind column cells = if column.own then cells else drop 1 cells

-- the fields of these columns, the first of which is at this place
unfoldable pub fields_from : ℕ → ℕ → List Column → List (List ℕ) → Result (List Value) PFault
fields_from row place [] cells = Ok []
fields_from row place (column ∷ columns) cells =
    before (field_of row place column cells)
    (fields_from row (place + 1) columns (cells_behind column cells))

-- a row with this number, in one piece, fed under no request, that was nowhere yet
abbrev pub row_with : ℕ → ℕ → Result (List Value) PFault → Result Row PFault
row_with row source (Err fault) = Err fault
row_with row source (Ok fields) = Ok (record {
  source = source;
  tuple = record { row = row; birth = []; issued = 0; fields = fields; trace = [] };
})

-- the row whose source was looked for by its name
abbrev pub row_by : JobView → ℕ → List (List ℕ) → Option ℕ → Result Row PFault
row_by job row cells None = Err (fault.Source row)
row_by job row cells (Some source) =
    row_with row source (fields_from row 0 job.columns (drop 1 cells))

-- the row of a record of the right length: its first cell names the source, the others are the
-- fields
abbrev pub row_from : JobView → ℕ → List (List ℕ) → Result Row PFault
row_from job row cells = row_by job row cells (source_named job (first_cell cells))

-- how many tuples a run may bring to its nodes
abbrev pub work_max : ℕ
work_max = 1048576

-- the row of a record, or what is wrong with it: first its number, then its length, its source, and
-- its columns from left to right
abbrev pub record_row : JobView → ℕ → List (List ℕ) → Result Row PFault
record_row job row cells =
    if nat_le (row * weight job) work_max then
    if nat_eq (length cells) (length (header_of job)) then row_from job row cells
    else Err (fault.Length row)
    else Err (fault.TooMuch row)

-- the rows of these records, of which the first has this number, or the first fault
unfoldable pub rows_from : JobView → ℕ → List (List (List ℕ)) → Result (List Row) PFault
rows_from job row [] = Ok []
rows_from job row (first ∷ later) =
    before (record_row job row first) (rows_from job (row + 1) later)

-- the rows behind a header
abbrev pub rows_behind : JobView → List (List (List ℕ)) → Result (List Row) PFault
rows_behind job [] = Err fault.NoHeader
rows_behind job (header ∷ later) =
    if pointwise (pointwise nat_eq) header (header_of job) then rows_from job 1 later
    else Err fault.Header

-- the rows of a payments file, or its first fault
abbrev pub rows_of : JobView → List ℕ → Result (List Row) PFault
rows_of job bytes = rows_behind job (records default_config (strip_bom bytes))
