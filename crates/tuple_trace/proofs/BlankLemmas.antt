-- Blank rows in front of others.
use Rattle.std.proofs.Common.{◌≡◌, ◌∙◌, ◌<◌, ◌≤◌, ◌+◌, ◌-◌, ◌++◌, ℕ, zero, suc, List, [], ◌∷◌, refl, sym, ap, subst, arith, length, map, get_or, IfSome, None, Some, Option, slice_get}
use Rattle.std.specs.List.{range_with_len}
use Rattle.std.specs.Option.{MatchOption}
use Rattle.std.proofs.lemmas.Option.{same_Some, slice_get-get_or}
use Rattle.std.proofs.lemmas.List.{length-append, length-map}
use Rattle.std.proofs.lemmas.List.FromFn.{length-range_with_len}
use Rattle.tuple_trace.specs.FeedRows.{AreRowsAfter, blank, blanks}
use Rattle.tuple_trace.specs.Rows.{AreRows, IsRow}
use Rattle.tuple_trace.specs.declared.row.Row.{Row}

blanks_long : (source count : ℕ) → length (blanks source count) ≡ count
blanks_long source count = length-map (range_with_len 0 count) (blank source) ∙ length-range_with_len 0 count

pub all_long : (source count : ℕ) (rows : List Row) → length (blanks source count ++ rows) ≡ count + length rows
all_long source count rows = omega (arith, length-append (blanks source count) rows, blanks_long source count)

get_behind : {A : Type 0} (place : ℕ) (xs ys : List A) → length xs ≤ place → slice_get (xs ++ ys) place ≡ slice_get ys (place - length xs)
get_behind place [] ys le = let e : place ≡ place - 0 = omega arith in ap (slice_get ys) e
get_behind zero (x ∷ xs) ys le = absurd (omega arith)
get_behind (suc place) (x ∷ xs) ys le =
    let e : place - length xs ≡ suc place - suc (length xs) = omega arith in
    get_behind place xs ys (omega arith) ∙ ap (slice_get ys) e

pub kept_get : (source count : ℕ) (rows : List Row) (place : ℕ) → count ≤ place → slice_get (blanks source count ++ rows) place ≡ slice_get rows (place - count)
kept_get source count rows place le =
    get_behind place (blanks source count) rows (omega (arith, blanks_long source count))
    ∙ ap (λ k. slice_get rows (place - k)) (blanks_long source count)

pub found : {B X : Type 0} (now : B → X) (r : Option B) (xs : List X) (k : ℕ) → MatchOption r (length xs ≤ k) (λ x. (k < length xs) × ((d : X) → now x ≡ get_or xs k d)) → IfSome r (λ x. slice_get xs k ≡ Some (now x))
found now None xs k m = tt
found now (Some x) xs k m = slice_get-get_or xs k (now x) m.0 ∙ ap Some (sym (m.1 (now x)))

-- a blank row has its number
blank_row : (source place : ℕ) → IsRow (place + 0 + 1) (blank source place)
blank_row source place = record { numbered = omega arith; unborn = refl; unissued = refl; unmoved = refl }

-- blank rows from this place on, and rows that are numbered on after them
after_blanks : (source start count : ℕ) (rows : List Row) → AreRowsAfter (start + count) rows → AreRowsAfter start (map (blank source) (range_with_len start count) ++ rows)
after_blanks source start zero rows are i row h = let e : start + zero ≡ start = omega arith in subst (λ n. AreRowsAfter n rows) e are i row h
after_blanks source start (suc n) rows are zero row h = subst (IsRow (start + zero + 1)) (same_Some (blank source start) row h) (blank_row source start)
after_blanks source start (suc n) rows are (suc i) row h =
    let on : start + suc n ≡ start + 1 + n = omega arith in
    let same : start + 1 + i + 1 ≡ start + suc i + 1 = omega arith in
    subst (λ (k : ℕ). IsRow k row) same (after_blanks source (start + 1) n rows (subst (λ k. AreRowsAfter k rows) on are) i row h)

-- blank rows, and rows that are numbered on after them, are rows
pub numbered_on : (source count : ℕ) (rows : List Row) → AreRowsAfter count rows → AreRows (blanks source count ++ rows)
numbered_on source count rows are i row h =
    let none : count ≡ 0 + count = omega arith in
    let same : 0 + i + 1 ≡ i + 1 = omega arith in
    subst (λ (k : ℕ). IsRow k row) same (after_blanks source 0 count rows (subst (λ k. AreRowsAfter k rows) none are) i row h)
