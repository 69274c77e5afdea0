-- Rows that were read are numbered by their places, and enter by sources.
use Rattle.std.proofs.Common.{◌≡◌, ◌+◌, ℕ, zero, suc, List, [], ◌∷◌, None, Some, Ok, sym, subst, arith, slice_get}
use Rattle.csv.specs.Reading.{default_config, records, strip_bom}
use Rattle.jobs.specs.JobView.{JobView}
use Rattle.jobs.specs.Nodes.{AreFromSources}
use Rattle.payments.specs.Reading.{first_cell, record_row, rows_behind, rows_from, rows_of, source_named}
use Rattle.payments.proofs.RowLemmas.{AreFromSources-rows_from, IsRow-row_by, before-ok, if-ok}
use Rattle.tuple_trace.specs.Rows.{AreRows, IsRow}
use Rattle.tuple_trace.specs.declared.row.Row.{Row}

of_number : (job : JobView) (row : ℕ) (cells : List (List ℕ)) (made : Row) → record_row job row cells ≡ Ok made → IsRow row made
of_number job row cells made ok = IsRow-row_by job row cells (source_named job (first_cell cells)) made (if-ok _ _ _ made (if-ok _ _ _ made ok))

-- the first row has its number, and those behind it have theirs
numbered_rest : (n i : ℕ) (item row : Row) (rest : List Row) → IsRow n item → ((k : ℕ) → slice_get rest k ≡ Some row → IsRow (k + (n + 1)) row) → slice_get (item ∷ rest) i ≡ Some row → IsRow (i + n) row
numbered_rest n zero item row rest here later there =
    let same : item ≡ row = cc there in
    let number : n ≡ zero + n = omega arith in
    subst (λ (k : ℕ). IsRow k row) number (subst (IsRow n) same here)
numbered_rest n (suc i) item row rest here later there =
    let number : i + (n + 1) ≡ suc i + n = omega arith in
    subst (λ (k : ℕ). IsRow k row) number (later i there)

numbered : (job : JobView) (n : ℕ) (cells : List (List (List ℕ))) (rows : List Row) → rows_from job n cells ≡ Ok rows → (i : ℕ) (row : Row) → slice_get rows i ≡ Some row → IsRow (i + n) row
unfolding rows_from
numbered job n [] rows ok i row there =
    let none : [] ≡ rows = cc ok in
    let gone : None ≡ Some row = subst (λ (l : List Row). slice_get l i ≡ Some row) (sym none) there in
    absurd (cc gone)
numbered job n (first ∷ later) rows ok i row there =
    let (item, rest, made, behind, whole) = before-ok (record_row job n first) (rows_from job (n + 1) later) rows ok in
    numbered_rest n i item row rest (of_number job n first item made) (λ k at. numbered job (n + 1) later rest behind k row at)
    (subst (λ (l : List Row). slice_get l i ≡ Some row) whole there)

rows_behind_are : (job : JobView) (cells : List (List (List ℕ))) (rows : List Row) → rows_behind job cells ≡ Ok rows → AreRows rows × AreFromSources job rows
rows_behind_are job [] rows ok = absurd (cc ok)
rows_behind_are job (header ∷ later) rows ok =
    let read : rows_from job 1 later ≡ Ok rows = if-ok _ _ _ rows ok in
    (λ i row there. numbered job 1 later rows read i row there, AreFromSources-rows_from job 1 later rows read)

pub rows_are : (job : JobView) (bytes : List ℕ) (rows : List Row) → rows_of job bytes ≡ Ok rows → AreRows rows × AreFromSources job rows
rows_are job bytes rows ok = rows_behind_are job (records default_config (strip_bom bytes)) rows ok
