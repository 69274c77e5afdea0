-- Rows that are read record by record, and where they come from.
use Rattle.std.proofs.Common.{◌≡◌, ◌+◌, ◌&&◌, ℕ, List, [], ◌∷◌, ◌++◌, Option, None, Some, Bool, true, false, Result, Ok, Err, inl, inr, if◌then◌else◌, refl, sym, subst, ◌∙◌, ap, arith, drop}
use Rattle.std.proofs.lemmas.Bool.{and_parts}
use Rattle.std.proofs.lemmas.List.Quantifiers.{position-Some}
use Rattle.std.proofs.lemmas.List.Elements.{All-cons, All-nil}
use Rattle.std.proofs.lemmas.Option.{slice_get_cases}
use Rattle.std.specs.Prelude.{position, slice_get}
use Rattle.tuple_trace.specs.Rows.{IsRow}
use Rattle.tuple_trace.specs.declared.row.Row.{Row}
use Rattle.tuple_trace.specs.declared.value.Value.{Value}
use Rattle.jobs.specs.Nodes.{AreFromSources, IsSourceOf, is_source}
use Rattle.jobs.specs.JobView.{JobView}
use Rattle.payments.specs.declared.read.PFault.{PFault}
use Rattle.payments.specs.Reading.{before, fields_from, first_cell, is_source_with, row_by, record_row, row_with, rows_from, source_named}
use Rattle.payments.proofs.Rest.{after, after-before, after-end}

rows_from-cons : (job : JobView) (row : ℕ) (first : List (List ℕ)) (later : List (List (List ℕ))) → rows_from job row (first ∷ later) ≡ before (record_row job row first) (rows_from job (row + 1) later)
unfolding rows_from
rows_from-cons job row first later = refl

-- one more row
pub rows_from-ok : (job : JobView) (row : ℕ) (records later : List (List (List ℕ))) (first : List (List ℕ)) (rows : List Row) (made : Row) → records ≡ first ∷ later → record_row job row first ≡ Ok made
    → after (rows ++ made ∷ []) (rows_from job (row + 1) later) ≡ after rows (rows_from job row records)
rows_from-ok job row records later first rows made is ok = rw (is, rows_from-cons job row first later, ok) (sym (after-before rows made _))

-- the first fault
pub rows_from-fault : (job : JobView) (row : ℕ) (records later : List (List (List ℕ))) (first : List (List ℕ)) (rows : List Row) (fault : PFault) → records ≡ first ∷ later → record_row job row first ≡ Err fault
    → after rows (rows_from job row records) ≡ Err fault
rows_from-fault job row records later first rows fault is err = rw (is, rows_from-cons job row first later, err) refl

-- no record is left
pub rows_from-end : (job : JobView) (row : ℕ) (records : List (List (List ℕ))) (rows : List Row) → records ≡ [] → after rows (rows_from job row records) ≡ Ok rows
unfolding rows_from
rows_from-end job row records rows is = rw is (after-end rows)

-- the first that passes is there, and passes
position-slice_get : {A : Type 0} (p : A → Bool) (xs : List A) (i : ℕ) → position p xs ≡ Some i → (x : A) × (slice_get xs i ≡ Some x) × (p x ≡ true)
position-slice_get p [] i is = absurd (cc is)
position-slice_get p (y ∷ ys) i is =
    let inside = position-Some p (y ∷ ys) i y is in
    elim (slice_get_cases (y ∷ ys) i).1 [
      | inl there ↦ (there.0, there.2, ap p (sym there.3) ∙ (position-Some p (y ∷ ys) i there.0 is).1)
      | inr past ↦ absurd (omega (arith, past.0, inside.0))
    ]

-- what a name finds is a source
IsSourceOf-named : (job : JobView) (name : List ℕ) (source : ℕ) → source_named job name ≡ Some source → IsSourceOf job source
IsSourceOf-named job name source is =
    let (node, at, passes) = position-slice_get (is_source_with name) job.nodes source is in
    rw at (and_parts (is_source node.func) _ passes).0

IsSourceOf-row_with : (job : JobView) (row source : ℕ) (fields : Result (List Value) PFault) (made : Row) → IsSourceOf job source → row_with row source fields ≡ Ok made → IsSourceOf job made.source
IsSourceOf-row_with job row source (Err fault) made is ok = absurd (cc ok)
IsSourceOf-row_with job row source (Ok fields) made is ok = let same : source ≡ made.source = cc ok in rw (← same) is

IsSourceOf-row_by : (job : JobView) (row : ℕ) (name : List ℕ) (cells : List (List ℕ)) (source : Option ℕ) (made : Row) → source_named job name ≡ source → row_by job row cells source ≡ Ok made → IsSourceOf job made.source
IsSourceOf-row_by job row name cells None made named ok = absurd (cc ok)
IsSourceOf-row_by job row name cells (Some source) made named ok = IsSourceOf-row_with job row source (fields_from row 0 job.columns (drop 1 cells)) made (IsSourceOf-named job name source named) ok

-- a row that is read has its number
IsRow-row_with : (row source : ℕ) (fields : Result (List Value) PFault) (made : Row) → row_with row source fields ≡ Ok made → IsRow row made
IsRow-row_with row source (Err fault) made ok = absurd (cc ok)
IsRow-row_with row source (Ok fields) made ok =
    let same : record { source = source; tuple = record { row = row; birth = []; issued = 0; fields = fields; trace = [] } } ≡ made = cc ok in
    subst (IsRow row) same (record { numbered = refl; unborn = refl; unissued = refl; unmoved = refl })

pub IsRow-row_by : (job : JobView) (row : ℕ) (cells : List (List ℕ)) (source : Option ℕ) (made : Row) → row_by job row cells source ≡ Ok made → IsRow row made
IsRow-row_by job row cells None made ok = absurd (cc ok)
IsRow-row_by job row cells (Some source) made ok = IsRow-row_with row source (fields_from row 0 job.columns (drop 1 cells)) made ok

pub if-ok : {A : Type 0} (b : Bool) (first : Result A PFault) (fault : PFault) (made : A) → (if b then first else Err fault) ≡ Ok made → first ≡ Ok made
if-ok true first fault made is = is
if-ok false first fault made is = absurd (cc is)

-- a row that was read enters by a source
IsSourceOf-row_of : (job : JobView) (row : ℕ) (cells : List (List ℕ)) (made : Row) → record_row job row cells ≡ Ok made → IsSourceOf job made.source
IsSourceOf-row_of job row cells made ok =
    IsSourceOf-row_by job row (first_cell cells) cells _ made refl (if-ok _ _ _ made (if-ok _ _ _ made ok))

pub before-ok : {A : Type 0} (first : Result A PFault) (later : Result (List A) PFault) (whole : List A) → before first later ≡ Ok whole
    → (item : A) × (rest : List A) × (first ≡ Ok item) × (later ≡ Ok rest) × (whole ≡ item ∷ rest)
before-ok (Err fault) later whole is = absurd (cc is)
before-ok (Ok item) (Err fault) whole is = absurd (cc is)
before-ok (Ok item) (Ok rest) whole is = (item, rest, refl, refl, cc is)

-- all rows that were read enter by sources
pub AreFromSources-rows_from : (job : JobView) (row : ℕ) (records : List (List (List ℕ))) (rows : List Row) → rows_from job row records ≡ Ok rows → AreFromSources job rows
unfolding rows_from
AreFromSources-rows_from job row [] rows ok = let none : [] ≡ rows = cc ok in rw (← none) (All-nil _)
AreFromSources-rows_from job row (first ∷ later) rows ok =
    let (item, rest, made, behind, whole) = before-ok (record_row job row first) (rows_from job (row + 1) later) rows ok in
    rw whole (All-cons (λ (r : Row). IsSourceOf job r.source) item rest (IsSourceOf-row_of job row first item made) (AreFromSources-rows_from job (row + 1) later rest behind))
