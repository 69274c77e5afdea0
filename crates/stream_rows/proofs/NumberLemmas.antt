-- The rows of a stream are those of a file but for their numbers, which go on.
use Rattle.std.proofs.Common.{◌≡◌, ◌∙◌, ◌+◌, ◌*◌, ℕ, ℤ, zero, suc, Bool, true, false, List, [], ◌∷◌}
use Rattle.std.proofs.Common.{Option, None, Some, Result, Ok, Err, if◌then◌else◌, refl, sym, ap}
use Rattle.std.proofs.Common.{subst, arith, length, drop, nat_eq, nat_le, slice_get}
use Rattle.std.proofs.lemmas.List.Elements.{All-cons, All-head, All-nil}
use Rattle.std.proofs.lemmas.Option.{same_Some}
use Rattle.std.specs.Option.{ok_or}
use Rattle.std.specs.Prelude.{All, option_map}
use Rattle.tuple_trace.specs.FeedRows.{AreRowsAfter}
use Rattle.tuple_trace.specs.Rows.{IsRow}
use Rattle.tuple_trace.specs.declared.row.Row.{Row}
use Rattle.tuple_trace.specs.declared.value.Value.{Value}
use Rattle.tuple_trace.specs.declared.value.Value.TheVariants as value
use Rattle.jobs.specs.JobView.{JobView}
use Rattle.jobs.specs.Limits.{HasShortTexts}
use Rattle.jobs.specs.Nodes.{AreFromSources, IsSourceOf}
use Rattle.jobs.specs.Weights.{weight}
use Rattle.jobs.specs.declared.column.Column.{Column}
use Rattle.jobs.specs.declared.column.ColumnKind.{ColumnKind}
use Rattle.jobs.specs.declared.column.ColumnKind.TheVariants as kind
use Rattle.jobs.specs.declared.limits.TheConstants.{TEXT_MAX}
use Rattle.payments.specs.declared.read.PFault.{PFault}
use Rattle.payments.specs.declared.read.PFault.TheVariants as fault
use Rattle.payments.specs.Reading.{before, cells_behind, field_of, fields_from, first_cell}
use Rattle.payments.specs.Reading.{first_value, header_of, row_by, row_from, record_row, row_with}
use Rattle.payments.specs.Reading.{rows_behind, rows_from, source_named, cell_value, work_max}
use Rattle.payments.specs.Spelling.{amount_of, number_in_text}
use Rattle.payments.proofs.LimitLemmas.{HaveShortTexts-rows_from}
use Rattle.payments.proofs.RowLemmas.{AreFromSources-rows_from, IsRow-row_by, before-ok, if-ok}
use Rattle.std.specs.Cmp.Lexicographic.{pointwise}
use Rattle.stream_rows.specs.Rows.{followed_by, numbered, only_fault, rows_under_header, sound_rows}
use Rattle.stream_rows.specs.Rows.{stream_row}
use Rattle.stream_rows.proofs.SoundLemmas.{these}

-- ---- a row doesn't depend on its number but by it

some_value : (o : Option ℤ) (e f : PFault) (v : Value) → ok_or (option_map value.Num o) e ≡ Ok v
    → ok_or (option_map value.Num o) f ≡ Ok v
some_value None e f v is = absurd (cc is)
some_value (Some number) e f v is = is

if_value : {A : Type 0} (b : Bool) (here : Result A PFault) (e f : PFault) (v : A)
    → (if b then here else Err e) ≡ Ok v → (if b then here else Err f) ≡ Ok v
if_value true here e f v is = is
if_value false here e f v is = absurd (cc is)

value_at : (row to place : ℕ) (k : ColumnKind) (cell : List ℕ) (v : Value)
    → cell_value row place k cell ≡ Ok v → cell_value to place k cell ≡ Ok v
value_at row to place kind.Text cell v is =
    if_value (nat_le (length cell) TEXT_MAX) (Ok (value.Text cell)) (fault.TextLong row place)
    (fault.TextLong to place) v is
value_at row to place kind.Number cell v is =
    some_value (number_in_text cell) (fault.Value row place) (fault.Value to place) v is
value_at row to place kind.Cents cell v is =
    some_value (amount_of cell) (fault.Value row place) (fault.Value to place) v is

field_at : (own : Bool) (row to place : ℕ) (k : ColumnKind) (cell : List ℕ) (v : Value)
    → (if own then Ok (first_value k) else cell_value row place k cell) ≡ Ok v
    → (if own then Ok (first_value k) else cell_value to place k cell) ≡ Ok v
field_at true row to place k cell v is = is
field_at false row to place k cell v is = value_at row to place k cell v is

fields_at : (row to place : ℕ) (columns : List Column) (cells : List (List ℕ))
    (fields : List Value) → fields_from row place columns cells ≡ Ok fields
    → fields_from to place columns cells ≡ Ok fields
unfolding fields_from
fields_at row to place [] cells fields is = is
fields_at row to place (column ∷ columns) cells fields is =
    let (field, rest, made, behind, whole) =
    before-ok (field_of row place column cells)
    (fields_from row (place + 1) columns (cells_behind column cells)) fields is in
    let here : field_of to place column cells ≡ Ok field =
    field_at column.own row to place column.kind (first_cell cells) field made in
    let on = fields_at row to (place + 1) columns (cells_behind column cells) rest behind in
    ap (λ (r : Result Value PFault). before r
    (fields_from to (place + 1) columns (cells_behind column cells))) here
    ∙ ap (λ (r : Result (List Value) PFault). before (Ok field) r) on
    ∙ ap Ok (sym whole)

-- the row with these fields, as it is read
abbrev row_of_fields : ℕ → ℕ → List Value → Row
row_of_fields row source fields =
    record {
      source = source;
      tuple = record { row = row; birth = []; issued = 0; fields = fields; trace = [] };
    }

abbrev read_at : ℕ → Row → Result Row PFault
read_at to row = Ok (numbered to row)

row_by-numbered : (job : JobView) (row to : ℕ) (cells : List (List ℕ)) (source : Option ℕ)
    (made : Row) → row_by job row cells source ≡ Ok made
    → row_by job to cells source ≡ Ok (numbered to made)
row_by-numbered job row to cells None made is = absurd (cc is)
row_by-numbered job row to cells (Some source) made is =
    go (fields_from row 0 job.columns (drop 1 cells)) refl is
  where
    go : (fields : Result (List Value) PFault) → fields_from row 0 job.columns (drop 1 cells)
        ≡ fields → row_with row source fields ≡ Ok made
        → row_with to source (fields_from to 0 job.columns (drop 1 cells))
        ≡ Ok (numbered to made)
    go (Err fault) e ok = absurd (cc ok)
    go (Ok fields) e ok =
        let same : row_of_fields row source fields ≡ made = cc ok in
        ap (row_with to source) (fields_at row to 0 job.columns (drop 1 cells) fields e)
        ∙ ap (read_at to) same

if_numbered : (b : Bool) (here there : Result Row PFault) (e f : PFault) (made other : Row)
    → (here ≡ Ok made → there ≡ Ok other) → (if b then here else Err e) ≡ Ok made
    → (if b then there else Err f) ≡ Ok other
if_numbered true here there e f made other on is = on is
if_numbered false here there e f made other on is = absurd (cc is)

-- a record that is a row with one number is the same row with another
pub stream_row-numbered : (job : JobView) (row to : ℕ) (cells : List (List ℕ)) (made : Row)
    → stream_row job row cells ≡ Ok made → stream_row job to cells ≡ Ok (numbered to made)
stream_row-numbered job row to cells made is =
    if_numbered (nat_eq (length cells) (length (header_of job))) (row_from job row cells)
    (row_from job to cells) (fault.Length row) (fault.Length to) made (numbered to made)
    (row_by-numbered job row to cells (source_named job (first_cell cells)) made) is

-- a record that is a row of a stream is a row of a file
in_file : (job : JobView) (row : ℕ) (cells : List (List ℕ)) (made : Row) → stream_row job row cells
    ≡ Ok made → rows_from job 0 (cells ∷ []) ≡ Ok (numbered 0 made ∷ [])
unfolding rows_from
in_file job row cells made is =
    let none : 0 * weight job ≡ 0 = omega arith in
    let light : nat_le (0 * weight job) work_max ≡ true = ap (λ n. nat_le n work_max) none in
    let here = stream_row-numbered job row 0 cells made is in
    let read : record_row job 0 cells ≡ Ok (numbered 0 made) =
    ap (λ b. if b then (if nat_eq (length cells) (length (header_of job)) then row_from job 0
    cells else Err (fault.Length 0)) else Err (fault.TooMuch 0)) light ∙ here in
    ap (λ (r : Result Row PFault). before r (Ok [])) read

-- ---- each row

IsSourceOf-stream_row : (job : JobView) (row : ℕ) (cells : List (List ℕ)) (made : Row)
    → stream_row job row cells ≡ Ok made → IsSourceOf job made.source
IsSourceOf-stream_row job row cells made is =
    All-head (λ (r : Row). IsSourceOf job r.source) (numbered 0 made) []
    (AreFromSources-rows_from job 0 (cells ∷ []) (numbered 0 made ∷ [])
    (in_file job row cells made is))

HasShortTexts-stream_row : (job : JobView) (row : ℕ) (cells : List (List ℕ)) (made : Row)
    → stream_row job row cells ≡ Ok made → HasShortTexts made.tuple
HasShortTexts-stream_row job row cells made is =
    All-head (λ (r : Row). HasShortTexts r.tuple) (numbered 0 made) []
    (HaveShortTexts-rows_from job 0 (cells ∷ []) (numbered 0 made ∷ [])
    (in_file job row cells made is))

IsRow-stream_row : (job : JobView) (row : ℕ) (cells : List (List ℕ)) (made : Row)
    → stream_row job row cells ≡ Ok made → IsRow row made
IsRow-stream_row job row cells made is =
    IsRow-row_by job row cells (source_named job (first_cell cells)) made (if-ok _ _ _ made is)

-- ---- all rows

All-sound_rows : (P : Row → Type 0) (job : JobView)
    → ((row : ℕ) (cells : List (List ℕ)) (made : Row) → stream_row job row cells ≡ Ok made → P made)
    → (row : ℕ) (records : List (List (List ℕ))) → All P (sound_rows job row records).rows
unfolding sound_rows
All-sound_rows P job each row [] = All-nil P
All-sound_rows P job each row (first ∷ later) =
    go (stream_row job row first) refl (All-sound_rows P job each (row + 1) later)
  where
    go : (read : Result Row PFault) → stream_row job row first ≡ read
        → All P (sound_rows job (row + 1) later).rows
        → All P (followed_by read (sound_rows job (row + 1) later)).rows
    go (Err fault) is rest = All-nil P
    go (Ok made) is rest =
        All-cons P made (sound_rows job (row + 1) later).rows (each row first made is) rest

pub AreFromSources-sound_rows : (job : JobView) (row : ℕ) (records : List (List (List ℕ)))
    → AreFromSources job (sound_rows job row records).rows
AreFromSources-sound_rows job row records =
    All-sound_rows (λ (r : Row). IsSourceOf job r.source) job
    (IsSourceOf-stream_row job) row records

pub HaveShortTexts-sound_rows : (job : JobView) (row : ℕ) (records : List (List (List ℕ)))
    → All (λ (r : Row). HasShortTexts r.tuple) (sound_rows job row records).rows
HaveShortTexts-sound_rows job row records =
    All-sound_rows (λ (r : Row). HasShortTexts r.tuple) job
    (HasShortTexts-stream_row job) row records

-- the rows are numbered on
pub AreRowsAfter-sound_rows : (job : JobView) (count : ℕ) (records : List (List (List ℕ)))
    → AreRowsAfter count (sound_rows job (count + 1) records).rows
unfolding sound_rows
AreRowsAfter-sound_rows job count [] i row at = absurd (cc at)
AreRowsAfter-sound_rows job count (first ∷ later) i row at =
    go (stream_row job (count + 1) first) refl i at (AreRowsAfter-sound_rows job (count + 1) later)
  where
    go : (read : Result Row PFault) → stream_row job (count + 1) first ≡ read → (i : ℕ)
        → slice_get (followed_by read (sound_rows job (count + 1 + 1) later)).rows i ≡ Some row
        → AreRowsAfter (count + 1) (sound_rows job (count + 1 + 1) later).rows
        → IsRow (count + i + 1) row
    go (Err fault) is i at rest = absurd (cc at)
    go (Ok made) is zero at rest =
        let same : count + 1 ≡ count + zero + 1 = omega arith in
        let this : made ≡ row = same_Some made row at in
        subst (λ (n : ℕ). IsRow n row) same
        (subst (IsRow (count + 1)) this (IsRow-stream_row job (count + 1) first made is))
    go (Ok made) is (suc i) at rest =
        let same : count + 1 + i + 1 ≡ count + suc i + 1 = omega arith in
        subst (λ (n : ℕ). IsRow n row) same (rest i row at)

-- ---- files

sound_rows-file : (job : JobView) (row : ℕ) (records : List (List (List ℕ))) (rows : List Row)
    → rows_from job row records ≡ Ok rows → sound_rows job row records ≡ these rows None
unfolding rows_from sound_rows
sound_rows-file job row [] rows is =
    let none : [] ≡ rows = cc is in ap (λ (r : List Row). these r None) none
sound_rows-file job row (first ∷ later) rows is =
    let (item, rest, made, behind, whole) =
    before-ok (record_row job row first) (rows_from job (row + 1) later) rows is in
    let here : stream_row job row first ≡ Ok item =
    if-ok (nat_le (row * weight job) work_max) (stream_row job row first)
    (fault.TooMuch row) item made in
    ap (λ (r : Result Row PFault). followed_by r (sound_rows job (row + 1) later)) here
    ∙ ap (followed_by (Ok item)) (sound_rows-file job (row + 1) later rest behind)
    ∙ ap (λ (r : List Row). these r None) (sym whole)

-- the rows of a file are those of a stream
pub rows_under_header-file : (job : JobView) (records : List (List (List ℕ))) (rows : List Row)
    → rows_behind job records ≡ Ok rows → rows_under_header job 0 records ≡ these rows None
rows_under_header-file job [] rows is = absurd (cc is)
rows_under_header-file job (header ∷ later) rows is =
    go (pointwise (pointwise nat_eq) header (header_of job)) is
  where
    go : (b : Bool) → (if b then rows_from job 1 later else Err fault.Header) ≡ Ok rows
        → (if b then sound_rows job 1 later else only_fault fault.Header) ≡ these rows None
    go true is = sound_rows-file job 1 later rows is
    go false is = absurd (cc is)
