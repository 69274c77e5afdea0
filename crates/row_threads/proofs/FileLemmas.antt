-- A stream without a fault, whose rows a run may have, is a file.
use Rattle.std.proofs.Common.{◌≡◌, ◌∙◌, ◌+◌, ◌*◌, ◌<◌, ◌≤◌, ℕ, Bool, true, false, List, [], ◌∷◌}
use Rattle.std.proofs.Common.{None, Some, Result, Ok, Err, All, refl, ap, arith, if◌then◌else◌, length}
use Rattle.std.proofs.Common.{nat_eq, nat_le}
use Rattle.std.proofs.Math.Nat.{mul-le-mul_right}
use Rattle.std.proofs.lemmas.Bool.{le-leb}
use Rattle.std.specs.Cmp.Lexicographic.{pointwise}
use Rattle.jobs.specs.JobView.{JobView}
use Rattle.jobs.specs.Limits.{HasShortTexts}
use Rattle.jobs.specs.Nodes.{AreFromSources}
use Rattle.jobs.specs.Weights.{weight}
use Rattle.payments.proofs.LimitLemmas.{HaveShortTexts-rows_from}
use Rattle.payments.proofs.RowLemmas.{AreFromSources-rows_from}
use Rattle.payments.specs.Reading.{before, header_of, record_row, rows_behind, rows_from, work_max}
use Rattle.payments.specs.declared.read.PFault.{PFault}
use Rattle.payments.specs.declared.read.PFault.TheVariants as fault
use Rattle.stream_rows.proofs.SoundLemmas.{these}
use Rattle.stream_rows.specs.Rows.{followed_by, only_fault, rows_under_header, sound_rows}
use Rattle.stream_rows.specs.Rows.{stream_row}
use Rattle.stream_rows.specs.declared.sound.SoundRows.{SoundRows}
use Rattle.tuple_trace.specs.declared.row.Row.{Row}

file_from : (job : JobView) (row most : ℕ) (records : List (List (List ℕ))) (rows : List Row)
    → sound_rows job row records ≡ these rows None → row + length rows ≤ most + 1
    → most * weight job ≤ work_max → rows_from job row records ≡ Ok rows
unfolding rows_from sound_rows
file_from job row most [] rows is few light =
    let none : [] ≡ rows = ap (λ (r : SoundRows). r.rows) is in ap Ok none
file_from job row most (first ∷ later) rows is few light =
    go (stream_row job row first) refl
    (λ rest whole fewer. file_from job (row + 1) most later rest whole fewer light) is
  where
    others : SoundRows
    others = sound_rows job (row + 1) later

    go : (read : Result Row PFault) → stream_row job row first ≡ read
        → ((rest : List Row) → others ≡ these rest None → row + 1 + length rest ≤ most + 1
        → rows_from job (row + 1) later ≡ Ok rest)
        → followed_by read others ≡ these rows None
        → before (record_row job row first) (rows_from job (row + 1) later) ≡ Ok rows
    go (Err wrong) e on same =
        let none : Some wrong ≡ None = ap (λ (r : SoundRows). r.fault) same in absurd (cc none)
    go (Ok made) e on same =
        let all : made ∷ others.rows ≡ rows = ap (λ (r : SoundRows). r.rows) same in
        let clean : others.fault ≡ None = ap (λ (r : SoundRows). r.fault) same in
        let many : length (made ∷ others.rows) ≡ length rows =
        ap (λ (l : List Row). length l) all in
        let behind = on others.rows (ap (these others.rows) clean) (omega (arith, few, many)) in
        let within : row * weight job ≤ most * weight job =
        mul-le-mul_right (weight job) (omega (arith, few, many)) in
        let test : nat_le (row * weight job) work_max ≡ true =
        le-leb (row * weight job) work_max (omega (arith, within, light)) in
        let here : record_row job row first ≡ Ok made =
        ap (λ b. if b then stream_row job row first else Err (fault.TooMuch row)) test ∙ e in
        ap (λ (r : Result Row PFault). before r (rows_from job (row + 1) later)) here
        ∙ ap (before (Ok made)) behind ∙ ap Ok all

-- the rows of a stream, if there are some, are those of a file
pub file_rows : (job : JobView) (records : List (List (List ℕ))) (rows : List Row)
    → rows_under_header job 0 records ≡ these rows None → 0 < length rows
    → length rows * weight job ≤ work_max → rows_behind job records ≡ Ok rows
file_rows job [] rows is some light =
    absurd (omega (arith, some, ap (λ (r : SoundRows). length r.rows) is))
file_rows job (header ∷ later) rows is some light =
    go (pointwise (pointwise nat_eq) header (header_of job)) is
  where
    go : (b : Bool) → (if b then sound_rows job 1 later else only_fault fault.Header)
        ≡ these rows None
        → (if b then rows_from job 1 later else Err fault.Header) ≡ Ok rows
    go true is = file_from job 1 (length rows) later rows is (omega arith) light
    go false is =
        let none : Some fault.Header ≡ None = ap (λ (r : SoundRows). r.fault) is in
        absurd (cc none)

-- what holds of the rows of records holds of the rows of a file
of_file : (P : List Row → Type 0) (job : JobView) (records : List (List (List ℕ)))
    (rows : List Row) → rows_behind job records ≡ Ok rows
    → ((later : List (List (List ℕ))) → rows_from job 1 later ≡ Ok rows → P rows) → P rows
of_file P job [] rows is each = absurd (cc is)
of_file P job (header ∷ later) rows is each =
    go (pointwise (pointwise nat_eq) header (header_of job)) is
  where
    go : (b : Bool) → (if b then rows_from job 1 later else Err fault.Header) ≡ Ok rows → P rows
    go true is = each later is
    go false is = absurd (cc is)

pub file_sources : (job : JobView) (records : List (List (List ℕ))) (rows : List Row)
    → rows_behind job records ≡ Ok rows → AreFromSources job rows
file_sources job records rows is =
    of_file (λ rows. AreFromSources job rows) job records rows is
    (λ later ok. AreFromSources-rows_from job 1 later rows ok)

pub file_texts : (job : JobView) (records : List (List (List ℕ))) (rows : List Row)
    → rows_behind job records ≡ Ok rows → All (λ (r : Row). HasShortTexts r.tuple) rows
file_texts job records rows is =
    of_file (λ rows. All (λ (r : Row). HasShortTexts r.tuple) rows) job records rows is
    (λ later ok. HaveShortTexts-rows_from job 1 later rows ok)
