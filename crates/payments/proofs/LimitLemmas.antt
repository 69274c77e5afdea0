-- The limits that all rows of a file keep: the length of a text, and the work of a run.
use Rattle.std.proofs.Common.{◌≡◌, ◌≤◌, ◌<◌, ◌+◌, ◌*◌, ℕ, ℤ, zero, suc, List, [], ◌∷◌, Option, None, Some, Bool, true, false, Result, Ok, Err, if◌then◌else◌, refl, ap, subst, arith, drop, length, nat_le}
use Rattle.std.proofs.lemmas.Bool.Decides.{nat_tests}
use Rattle.std.proofs.lemmas.List.Elements.{All-cons, All-nil}
use Rattle.std.specs.Option.{ok_or}
use Rattle.std.specs.Prelude.{All, option_map}
use Rattle.tuple_trace.specs.declared.row.Row.{Row}
use Rattle.tuple_trace.specs.declared.value.Value.{Value}
use Rattle.tuple_trace.specs.declared.value.Value.TheVariants as value
use Rattle.jobs.specs.Limits.{HasShortTexts, IsShort}
use Rattle.jobs.specs.Weights.{weight}
use Rattle.jobs.specs.JobView.{JobView}
use Rattle.jobs.specs.declared.column.Column.{Column}
use Rattle.jobs.specs.declared.column.ColumnKind.{ColumnKind}
use Rattle.jobs.specs.declared.column.ColumnKind.TheVariants as kind
use Rattle.payments.specs.declared.read.PFault.{PFault}
use Rattle.payments.specs.declared.read.PFault.TheVariants as fault
use Rattle.payments.specs.Reading.{cells_behind, field_of, fields_from, first_cell, first_value, row_by, record_row, row_with, rows_from, source_named, cell_value, work_max}
use Rattle.payments.specs.Spelling.{amount_of, number_in_text}
use Rattle.payments.proofs.RowLemmas.{before-ok, if-ok}
use Rattle.jobs.specs.declared.limits.TheConstants.{TEXT_MAX}

-- ---- texts

IsShort-number : (number : Option ℤ) (fault : PFault) (v : Value) → ok_or (option_map value.Num number) fault ≡ Ok v → IsShort v
IsShort-number None fault v is = absurd (cc is)
IsShort-number (Some number) fault v is = let same : value.Num number ≡ v = cc is in subst IsShort same (omega arith)

IsShort-text : (b : Bool) (text : List ℕ) (fault : PFault) (v : Value) → nat_le (length text) TEXT_MAX ≡ b → (if b then Ok (value.Text text) else Err fault) ≡ Ok v → IsShort v
IsShort-text true text fault v short is =
    let same : value.Text text ≡ v = cc is in
    let few : length text ≤ TEXT_MAX = grind (arith, nat_tests) in
    subst IsShort same few
IsShort-text false text fault v short is = absurd (cc is)

IsShort-value : (row place : ℕ) (k : ColumnKind) (cell : List ℕ) (v : Value) → cell_value row place k cell ≡ Ok v → IsShort v
IsShort-value row place kind.Text cell v is = IsShort-text (nat_le (length cell) TEXT_MAX) cell (fault.TextLong row place) v refl is
IsShort-value row place kind.Number cell v is = IsShort-number (number_in_text cell) (fault.Value row place) v is
IsShort-value row place kind.Cents cell v is = IsShort-number (amount_of cell) (fault.Value row place) v is

IsShort-first : (k : ColumnKind) → IsShort (first_value k)
IsShort-first kind.Text = omega arith
IsShort-first kind.Number = omega arith
IsShort-first kind.Cents = omega arith

IsShort-field : (own : Bool) (row place : ℕ) (k : ColumnKind) (cell : List ℕ) (v : Value) → (if own then Ok (first_value k) else cell_value row place k cell) ≡ Ok v → IsShort v
IsShort-field true row place k cell v is = let same : first_value k ≡ v = cc is in subst IsShort same (IsShort-first k)
IsShort-field false row place k cell v is = IsShort-value row place k cell v is

AreShort-fields_from : (row place : ℕ) (columns : List Column) (cells : List (List ℕ)) (fields : List Value) → fields_from row place columns cells ≡ Ok fields → All IsShort fields
unfolding fields_from
AreShort-fields_from row place [] cells fields is = let none : [] ≡ fields = cc is in rw (← none) (All-nil IsShort)
AreShort-fields_from row place (column ∷ columns) cells fields is =
    let (field, rest, made, behind, whole) = before-ok (field_of row place column cells) (fields_from row (place + 1) columns (cells_behind column cells)) fields is in
    rw whole (All-cons IsShort field rest (IsShort-field column.own row place column.kind (first_cell cells) field made) (AreShort-fields_from row (place + 1) columns (cells_behind column cells) rest behind))

-- the fields of a row that was read
abbrev fields_in : List Value → Result Row PFault → List Value
fields_in other (Ok row) = row.tuple.fields
fields_in other (Err fault) = other

HasShortTexts-row_with : (row source : ℕ) (fields : Result (List Value) PFault) (made : Row) → ((all : List Value) → fields ≡ Ok all → All IsShort all) → row_with row source fields ≡ Ok made → HasShortTexts made.tuple
HasShortTexts-row_with row source (Err fault) made short is = absurd (cc is)
HasShortTexts-row_with row source (Ok fields) made short is = let same : fields ≡ made.tuple.fields = ap (fields_in fields) is in rw (← same) (short fields refl)

HasShortTexts-row_by : (job : JobView) (row : ℕ) (cells : List (List ℕ)) (source : Option ℕ) (made : Row) → row_by job row cells source ≡ Ok made → HasShortTexts made.tuple
HasShortTexts-row_by job row cells None made is = absurd (cc is)
HasShortTexts-row_by job row cells (Some source) made is =
    HasShortTexts-row_with row source (fields_from row 0 job.columns (drop 1 cells)) made (λ all ok. AreShort-fields_from row 0 job.columns (drop 1 cells) all ok) is

HasShortTexts-row_of : (job : JobView) (row : ℕ) (cells : List (List ℕ)) (made : Row) → record_row job row cells ≡ Ok made → HasShortTexts made.tuple
HasShortTexts-row_of job row cells made ok =
    HasShortTexts-row_by job row cells (source_named job (first_cell cells)) made (if-ok _ _ _ made (if-ok _ _ _ made ok))

-- no row that was read has a longer text
pub HaveShortTexts-rows_from : (job : JobView) (row : ℕ) (records : List (List (List ℕ))) (rows : List Row) → rows_from job row records ≡ Ok rows → All (λ (r : Row). HasShortTexts r.tuple) rows
unfolding rows_from
HaveShortTexts-rows_from job row [] rows ok = let none : [] ≡ rows = cc ok in rw (← none) (All-nil _)
HaveShortTexts-rows_from job row (first ∷ later) rows ok =
    let (item, rest, made, behind, whole) = before-ok (record_row job row first) (rows_from job (row + 1) later) rows ok in
    rw whole (All-cons (λ (r : Row). HasShortTexts r.tuple) item rest (HasShortTexts-row_of job row first item made) (HaveShortTexts-rows_from job (row + 1) later rest behind))

-- ---- work

if-test : {A : Type 0} (b : Bool) (first : Result A PFault) (fault : PFault) (made : A) → (if b then first else Err fault) ≡ Ok made → b ≡ true
if-test true first fault made is = refl
if-test false first fault made is = absurd (cc is)

work-row_of : (job : JobView) (row : ℕ) (cells : List (List ℕ)) (made : Row) → record_row job row cells ≡ Ok made → row * weight job ≤ work_max
work-row_of job row cells made ok =
    let within : nat_le (row * weight job) work_max ≡ true = if-test _ _ _ made ok in
    grind (arith, nat_tests)

work-place : (job : JobView) (row : ℕ) (records : List (List (List ℕ))) (rows : List Row) → rows_from job row records ≡ Ok rows → (k : ℕ) → k < length rows → (row + k) * weight job ≤ work_max
unfolding rows_from
work-place job row [] rows ok k within = let none : [] ≡ rows = cc ok in absurd (omega (arith, ap length none))
work-place job row (first ∷ later) rows ok zero within =
    let (item, rest, made, behind, whole) = before-ok (record_row job row first) (rows_from job (row + 1) later) rows ok in
    let same : row ≡ row + 0 = omega arith in
    subst (λ n. n * weight job ≤ work_max) same (work-row_of job row first item made)
work-place job row (first ∷ later) rows ok (suc k) within =
    let (item, rest, made, behind, whole) = before-ok (record_row job row first) (rows_from job (row + 1) later) rows ok in
    let inner : k < length rest = omega (arith, ap length whole) in
    let same : row + 1 + k ≡ row + suc k = omega arith in
    subst (λ n. n * weight job ≤ work_max) same (work-place job (row + 1) later rest behind k inner)

-- the number of rows times the weight of the job is within the limit
pub work-rows_from : (job : JobView) (records : List (List (List ℕ))) (rows : List Row) → rows_from job 1 records ≡ Ok rows → length rows * weight job ≤ work_max
work-rows_from job records [] ok = omega arith
work-rows_from job records (first ∷ rest) ok =
    let last = work-place job 1 records (first ∷ rest) ok (length rest) (omega arith) in
    let same : 1 + length rest ≡ length (first ∷ rest) = omega arith in
    subst (λ n. n * weight job ≤ work_max) same last
