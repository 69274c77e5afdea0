-- Rows that are read record by record, up to the first fault.
use Rattle.std.proofs.Common.{◌≡◌, ◌≢◌, ◌∙◌, ◌+◌, ◌<◌, ℕ, List, [], ◌∷◌, ◌++◌, Option, None, Some}
use Rattle.std.proofs.Common.{Result, Ok, Err, refl, sym, ap, arith, length, append_assoc}
use Rattle.std.proofs.lemmas.List.{append-nil}
use Rattle.tuple_trace.specs.declared.row.Row.{Row}
use Rattle.jobs.specs.JobView.{JobView}
use Rattle.payments.specs.declared.read.PFault.{PFault}
use Rattle.payments.specs.declared.read.PFault.TheVariants as fault
use Rattle.std.specs.Prelude.{IfOk}
use Rattle.stream_rows.specs.Rows.{and_then, followed_by, no_rows, only_fault, sound_rows}
use Rattle.stream_rows.specs.Rows.{stream_row}
use Rattle.stream_rows.specs.declared.sound.SoundRows.{SoundRows}

-- these rows, and this fault
abbrev pub these : List Row → Option PFault → SoundRows
these rows fault = record { rows = rows; fault = fault }

pub sound_rows-nil : (job : JobView) (row : ℕ) → sound_rows job row [] ≡ no_rows
unfolding sound_rows
sound_rows-nil job row = refl

pub sound_rows-cons : (job : JobView) (row : ℕ) (first : List (List ℕ))
    (later : List (List (List ℕ))) → sound_rows job row (first ∷ later)
    ≡ followed_by (stream_row job row first) (sound_rows job (row + 1) later)
unfolding sound_rows
sound_rows-cons job row first later = refl

-- one more row
pub sound_rows-ok : (job : JobView) (row : ℕ) (records later : List (List (List ℕ)))
    (first : List (List ℕ)) (rows : List Row) (made : Row) → records ≡ first ∷ later
    → stream_row job row first ≡ Ok made
    → and_then (rows ++ made ∷ []) (sound_rows job (row + 1) later)
    ≡ and_then rows (sound_rows job row records)
sound_rows-ok job row records later first rows made is ok =
    let rest = sound_rows job (row + 1) later in
    let here : sound_rows job row records ≡ followed_by (Ok made) rest =
    ap (sound_rows job row) is ∙ sound_rows-cons job row first later
    ∙ ap (λ r. followed_by r rest) ok in
    ap (λ all. these all rest.fault) (append_assoc rows (made ∷ []) rest.rows)
    ∙ sym (ap (and_then rows) here)

-- the first fault
pub sound_rows-fault : (job : JobView) (row : ℕ) (records later : List (List (List ℕ)))
    (first : List (List ℕ)) (rows : List Row) (fault : PFault) → records ≡ first ∷ later
    → stream_row job row first ≡ Err fault
    → these rows (Some fault) ≡ and_then rows (sound_rows job row records)
sound_rows-fault job row records later first rows fault is err =
    let rest = sound_rows job (row + 1) later in
    let here : sound_rows job row records ≡ only_fault fault =
    ap (sound_rows job row) is ∙ sound_rows-cons job row first later
    ∙ ap (λ r. followed_by r rest) err in
    sym (ap (λ all. these all (Some fault)) (append-nil rows)) ∙ sym (ap (and_then rows) here)

-- no record is left
pub sound_rows-end : (job : JobView) (row : ℕ) (records : List (List (List ℕ))) (rows : List Row)
    → records ≡ [] → these rows None ≡ and_then rows (sound_rows job row records)
sound_rows-end job row records rows is =
    let here : sound_rows job row records ≡ no_rows =
    ap (sound_rows job row) is ∙ sound_rows-nil job row in
    sym (ap (λ all. these all None) (append-nil rows)) ∙ sym (ap (and_then rows) here)

-- rows that have no fault are followed by those of later records, numbered on
pub sound_rows-append : (job : JobView) (row : ℕ) (xs ys : List (List (List ℕ)))
    → (sound_rows job row xs).fault ≡ None
    → sound_rows job row (xs ++ ys)
    ≡ and_then (sound_rows job row xs).rows
    (sound_rows job (row + length (sound_rows job row xs).rows) ys)
unfolding sound_rows
sound_rows-append job row [] ys sound =
    let same : row ≡ row + 0 = omega arith in ap (λ n. sound_rows job n ys) same
sound_rows-append job row (first ∷ later) ys sound =
    go (stream_row job row first) (sound_rows-append job (row + 1) later ys) sound
  where
    go : (made : Result Row PFault)
        → ((sound_rows job (row + 1) later).fault ≡ None → sound_rows job (row + 1) (later ++ ys)
        ≡ and_then (sound_rows job (row + 1) later).rows
        (sound_rows job (row + 1 + length (sound_rows job (row + 1) later).rows) ys))
        → (followed_by made (sound_rows job (row + 1) later)).fault ≡ None
        → followed_by made (sound_rows job (row + 1) (later ++ ys))
        ≡ and_then (followed_by made (sound_rows job (row + 1) later)).rows
        (sound_rows job (row + length (followed_by made (sound_rows job (row + 1) later)).rows) ys)
    go (Err fault) on sound = absurd (cc sound)
    go (Ok made) on sound =
        let some = (sound_rows job (row + 1) later).rows in
        let same : row + 1 + length some ≡ row + length (made ∷ some) = omega arith in
        ap (followed_by (Ok made)) (on sound)
        ∙ ap (λ n. and_then (made ∷ some) (sound_rows job n ys)) same

-- what stopped by a fault are the rows before it
pub stopped-whole : {E : Type 0} (read : Result SoundRows E) (rows : List Row) (e : PFault)
    (whole : SoundRows) → (e ≢ fault.NoMemory → these rows (Some e) ≡ whole)
    → IfOk read (λ s. (e ≢ fault.NoMemory) × (s ≡ these rows (Some e))) → IfOk read (λ s. s ≡ whole)
stopped-whole (Err none) rows e whole same is = tt
stopped-whole (Ok s) rows e whole same is = is.1 ∙ same is.0

-- they are no more than those
pub stopped-few : {E : Type 0} (read : Result SoundRows E) (rows : List Row) (e : PFault)
    (fed limit : ℕ) → fed + length rows < limit
    → IfOk read (λ s. (e ≢ fault.NoMemory) × (s ≡ these rows (Some e)))
    → IfOk read (λ s. fed + length s.rows < limit)
stopped-few (Err none) rows e fed limit few is = tt
stopped-few (Ok s) rows e fed limit few is =
    omega (arith, few, ap (λ (r : SoundRows). length r.rows) is.1)
