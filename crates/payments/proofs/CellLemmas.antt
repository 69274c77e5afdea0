-- Cells that are read one after another.
use Rattle.std.proofs.Common.{◌≡◌, ◌≤◌, ◌<◌, ◌+◌, ℕ, zero, suc, List, [], ◌∷◌, ◌++◌, None, Some, Bool, true, false, Ok, Err, refl, sym, ◌∙◌, ap, arith, drop, length, add-one, get_or}
use Rattle.std.proofs.lemmas.List.{drop-drop, drop_all}
use Rattle.std.specs.Prelude.{nat_eq}
use Rattle.std.specs.Cmp.Lexicographic.{pointwise}
use Rattle.csv.specs.Records.{field_at}
use Rattle.jobs.specs.declared.column.Column.{Column}
use Rattle.tuple_trace.specs.declared.value.Value.{Value}
use Rattle.payments.specs.declared.read.PFault.{PFault}
use Rattle.payments.proofs.Rest.{after, after-before, after-end, drop-item}
use Rattle.payments.specs.Reading.{before, begins_with, cells_behind, field_of, fields_from, given_names}

field_at-suc : (cells : List (List ℕ)) (i : ℕ) (cell : List ℕ) → field_at cells i ≡ Some cell → drop i cells ≡ cell ∷ drop (suc i) cells
unfolding field_at
field_at-suc [] i cell at = absurd (cc at)
field_at-suc (c ∷ cells) zero cell at = cc at
field_at-suc (c ∷ cells) (suc i) cell at = field_at-suc cells i cell at

-- the cell at a place is the first of those from there on
pub field_at-some : (cells : List (List ℕ)) (i : ℕ) (cell : List ℕ) → field_at cells i ≡ Some cell → drop i cells ≡ cell ∷ drop (i + 1) cells
field_at-some cells i cell at = rw add-one (field_at-suc cells i cell at)

-- where there is no cell at a place, none is left
pub field_at-none : (cells : List (List ℕ)) (i : ℕ) → field_at cells i ≡ None → drop i cells ≡ []
unfolding field_at
field_at-none [] zero at = refl
field_at-none [] (suc i) at = refl
field_at-none (c ∷ cells) zero at = absurd (cc at)
field_at-none (c ∷ cells) (suc i) at = field_at-none cells i at

-- two lists of cells are the same
abbrev pub same : List (List ℕ) → List (List ℕ) → Bool
same xs ys = pointwise (pointwise nat_eq) xs ys

same-cons : (cells : List (List ℕ)) (name : List ℕ) (names : List (List ℕ)) → begins_with name cells ≡ true → same cells (name ∷ names) ≡ same (drop 1 cells) names
same-cons [] name names is = absurd (cc is)
same-cons (cell ∷ cells) name names is = rw is refl

drop-one : (cells : List (List ℕ)) (i : ℕ) → drop 1 (drop i cells) ≡ drop (i + 1) cells
drop-one cells i = drop-drop 1 i cells

pub begins_with-within : (cells : List (List ℕ)) (i : ℕ) (name : List ℕ) → begins_with name (drop i cells) ≡ true → i + 1 ≤ length cells
begins_with-within [] zero name is = absurd (cc is)
begins_with-within [] (suc i) name is = absurd (cc is)
begins_with-within (cell ∷ cells) zero name is = omega arith
begins_with-within (cell ∷ cells) (suc i) name is = let less = begins_with-within cells i name is in omega arith

given_names-own : (column : Column) (columns : List Column) → column.own ≡ true → given_names (column ∷ columns) ≡ given_names columns
given_names-own column columns own = rw own refl

given_names-cons : (column : Column) (columns : List Column) → column.own ≡ false → given_names (column ∷ columns) ≡ column.name ∷ given_names columns
given_names-cons column columns own = rw own refl

-- an own column has no name in the header
pub same-own : (columns : List Column) (i : ℕ) (column : Column) (left : List (List ℕ)) → i < length columns → column ≡ get_or columns i column → column.own ≡ true
    → same left (given_names (drop (i + 1) columns)) ≡ same left (given_names (drop i columns))
same-own columns i column left less is own = rw (drop-item columns i column less is) (ap (same left) (sym (given_names-own column (drop (i + 1) columns) own)))

-- the next cell is the name of the column
pub same-given : (columns : List Column) (i : ℕ) (column : Column) (cells : List (List ℕ)) (next : ℕ) → i < length columns → column ≡ get_or columns i column → column.own ≡ false
    → begins_with column.name (drop next cells) ≡ true → same (drop (next + 1) cells) (given_names (drop (i + 1) columns)) ≡ same (drop next cells) (given_names (drop i columns))
same-given columns i column cells next less is own begins =
    rw (drop-item columns i column less is)
    (rw (← drop-one cells next) (sym (ap (same (drop next cells)) (given_names-cons column (drop (i + 1) columns) own) ∙ same-cons (drop next cells) column.name _ begins)))

-- a field, and then those of the columns behind
fields_from-cons : (row place : ℕ) (column : Column) (columns : List Column) (cells : List (List ℕ))
    → fields_from row place (column ∷ columns) cells ≡ before (field_of row place column cells) (fields_from row (place + 1) columns (cells_behind column cells))
unfolding fields_from
fields_from-cons row place column columns cells = refl

-- one more field
pub fields_from-ok : (row place : ℕ) (columns : List Column) (column : Column) (cells : List (List ℕ)) (next later : ℕ) (fields : List Value) (field : Value) → place < length columns → column ≡ get_or columns place column
    → field_of row place column (drop next cells) ≡ Ok field → drop later cells ≡ cells_behind column (drop next cells)
    → after (fields ++ field ∷ []) (fields_from row (place + 1) (drop (place + 1) columns) (drop later cells)) ≡ after fields (fields_from row place (drop place columns) (drop next cells))
fields_from-ok row place columns column cells next later fields field less is ok rest =
    rw (drop-item columns place column less is, fields_from-cons row place column (drop (place + 1) columns) (drop next cells), ok, rest) (sym (after-before fields field _))

-- the first fault
pub fields_from-fault : (row place : ℕ) (columns : List Column) (column : Column) (left : List (List ℕ)) (fields : List Value) (fault : PFault) → place < length columns → column ≡ get_or columns place column
    → field_of row place column left ≡ Err fault → after fields (fields_from row place (drop place columns) left) ≡ Err fault
fields_from-fault row place columns column left fields fault less is err =
    rw (drop-item columns place column less is, fields_from-cons row place column (drop (place + 1) columns) left, err) refl

-- no column is left
pub fields_from-end : (row place : ℕ) (columns : List Column) (left : List (List ℕ)) (fields : List Value) → length columns ≤ place → after fields (fields_from row place (drop place columns) left) ≡ Ok fields
unfolding fields_from
fields_from-end row place columns left fields past = rw (drop_all place columns past) (after-end fields)
