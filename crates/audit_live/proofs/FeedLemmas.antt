-- The rows after which the feed of a run issues its requests.
use Rattle.std.proofs.Common.{◌≡◌, ◌∙◌, ◌⊎◌, ◌==◌, ◌+◌, ◌-◌, ◌<◌, ◌≤◌, ℕ, zero, suc, Bool, true, false, cond, List, [], ◌∷◌, ◌++◌, inl, inr, refl, sym, ap, arith, filter, length, map, min}
use Rattle.std.specs.Prelude.{nat_le}
use Rattle.std.proofs.lemmas.Bool.{cases_lt}
use Rattle.std.proofs.lemmas.Bool.Decides.{nat_tests}
use Rattle.std.proofs.lemmas.List.{length-append}
use Rattle.sink_journal.specs.declared.journal.Feed.{Feed}
use Rattle.sink_journal.specs.declared.journal.Feed.TheVariants as feed
use Rattle.flow_model.specs.Feeding.{feed_after, feed_from, issued_after, issued_where}
use Rattle.coordinator.specs.Feeding.{AreRising, issue_rows}

-- ---- the rows of a list that is fed

-- the rows after which requests are issued that wait for these
abbrev pub of_those : ℕ → List ℕ → List ℕ
of_those rows xs = map (λ (after : ℕ). min after rows) xs

-- those of each row after this one, one row after the other
abbrev of_each : ℕ → ℕ → List ℕ → List ℕ
of_each row zero zs = []
of_each row (suc left) zs = filter (λ z. z == row + 1) zs ++ of_each (row + 1) left zs

-- those up to this row, and then those of each later one
abbrev of_all : ℕ → List ℕ → List ℕ
of_all rows zs = filter (λ z. nat_le z 0) zs ++ of_each 0 rows zs

issues_where : (test : ℕ → Bool) (rows row r : ℕ) (xs : List ℕ) (more : List Feed) → ((z : ℕ) → test z ≡ true → z ≡ row)
    → issue_rows row (issued_where test rows r xs ++ more) ≡ filter test (of_those rows xs) ++ issue_rows row more
issues_where test rows row r [] more only = refl
issues_where test rows row r (a ∷ xs) more only = go (test (min a rows)) refl (issues_where test rows row (r + 1) xs more only)
  where
    go : (b : Bool) → test (min a rows) ≡ b → issue_rows row (issued_where test rows (r + 1) xs ++ more) ≡ filter test (of_those rows xs) ++ issue_rows row more
        → issue_rows row (cond b (feed.Issued r ∷ issued_where test rows (r + 1) xs) (issued_where test rows (r + 1) xs) ++ more)
        ≡ cond b (min a rows ∷ filter test (of_those rows xs)) (filter test (of_those rows xs)) ++ issue_rows row more
    go true e h = ap (λ l. row ∷ l) h ∙ ap (λ z. z ∷ (filter test (of_those rows xs) ++ issue_rows row more)) (sym (only (min a rows) e))
    go false e h = h

equal_of : (row z : ℕ) → (z == row) ≡ true → z ≡ row
equal_of row z e = grind (arith, nat_tests)

none_of : (z : ℕ) → nat_le z 0 ≡ true → z ≡ 0
none_of z e = grind (arith, nat_tests)

issues_after : (rows r row left : ℕ) (xs : List ℕ) → issue_rows row (feed_after xs r row rows left) ≡ of_each row left (of_those rows xs)
issues_after rows r row zero xs = refl
issues_after rows r row (suc left) xs =
    let next : suc row ≡ row + 1 = omega arith in
    ap (λ k. issue_rows k (issued_after (row + 1) rows r xs ++ feed_after xs r (row + 1) rows left)) next
    ∙ (issues_where (λ after. after == row + 1) rows (row + 1) r xs (feed_after xs r (row + 1) rows left) (equal_of (row + 1))
    ∙ ap (λ l. filter (λ z. z == row + 1) (of_those rows xs) ++ l) (issues_after rows r (row + 1) left xs))

issues_all : (rows : ℕ) (xs : List ℕ) → issue_rows 0 (feed_from 0 0 xs rows) ≡ of_all rows (of_those rows xs)
issues_all rows xs =
    let all : rows - 0 ≡ rows = omega arith in
    issues_where (λ after. nat_le after 0) rows 0 1 xs (feed_after xs 1 0 rows (rows - 0)) none_of
    ∙ (ap (λ l. filter (λ z. nat_le z 0) (of_those rows xs) ++ l) (issues_after rows 1 0 (rows - 0) xs)
    ∙ ap (λ k. filter (λ z. nat_le z 0) (of_those rows xs) ++ of_each 0 k (of_those rows xs)) all)

-- ---- one of them more

equal_test : (a b : ℕ) → a ≡ b → (a == b) ≡ true
equal_test a b e = grind (arith, nat_tests)

other_test : (a b : ℕ) → (a < b) ⊎ (b < a) → (a == b) ≡ false
other_test a b (inl lt) = grind (arith, nat_tests)
other_test a b (inr lt) = grind (arith, nat_tests)

none_test : (a : ℕ) → a ≡ 0 → nat_le a 0 ≡ true
none_test a e = grind (arith, nat_tests)

some_test : (a : ℕ) → 0 < a → nat_le a 0 ≡ false
some_test a lt = grind (arith, nat_tests)

none_each : (row left : ℕ) → of_each row left [] ≡ []
none_each row zero = refl
none_each row (suc left) = none_each (row + 1) left

-- what is behind is of no later row
behind : (row left z : ℕ) (zs : List ℕ) → z ≤ row → of_each row left (z ∷ zs) ≡ of_each row left zs
behind row zero z zs le = refl
behind row (suc left) z zs le =
    ap (λ b. cond b (z ∷ filter (λ z. z == row + 1) zs) (filter (λ z. z == row + 1) zs) ++ of_each (row + 1) left (z ∷ zs)) (other_test z (row + 1) (inl (omega (arith, le))))
    ∙ ap (λ l. filter (λ z. z == row + 1) zs ++ l) (behind (row + 1) left z zs (omega (arith, le)))

-- ---- how many there are

counts_one : (row left z : ℕ) (zs : List ℕ) → row < z → z ≤ row + left → length (of_each row left (z ∷ zs)) ≡ suc (length (of_each row left zs))
counts_one row zero z zs lt le = absurd (omega (arith, lt, le))
counts_one row (suc left) z zs lt le = elim (cases_lt (row + 1) z) [
  | inl above ↦
      (let e = ap (λ b. length (cond b (z ∷ filter (λ z. z == row + 1) zs) (filter (λ z. z == row + 1) zs) ++ of_each (row + 1) left (z ∷ zs))) (other_test z (row + 1) (inr above)) in
      let a = length-append (filter (λ z. z == row + 1) zs) (of_each (row + 1) left (z ∷ zs)) in
      let b = length-append (filter (λ z. z == row + 1) zs) (of_each (row + 1) left zs) in
      let h = counts_one (row + 1) left z zs above (omega (arith, le)) in
      omega (arith, e, a, b, h))
  | inr here ↦
      ap (λ b. length (cond b (z ∷ filter (λ z. z == row + 1) zs) (filter (λ z. z == row + 1) zs) ++ of_each (row + 1) left (z ∷ zs))) (equal_test z (row + 1) (omega (arith, here, lt)))
      ∙ ap (λ l. suc (length (filter (λ z. z == row + 1) zs ++ l))) (behind (row + 1) left z zs here)
]

count_all : (rows : ℕ) (xs : List ℕ) → length (of_all rows (of_those rows xs)) ≡ length xs
count_all rows [] = ap (λ (l : List ℕ). length l) (none_each 0 rows)
count_all rows (a ∷ xs) = elim (cases_lt 0 (min a rows)) [
  | inl above ↦
      (let zs : List ℕ = of_those rows xs in
      let e = ap (λ b. length (cond b (min a rows ∷ filter (λ z. nat_le z 0) zs) (filter (λ z. nat_le z 0) zs) ++ of_each 0 rows (min a rows ∷ zs))) (some_test (min a rows) above) in
      let f = length-append (filter (λ z. nat_le z 0) zs) (of_each 0 rows (min a rows ∷ zs)) in
      let g = length-append (filter (λ z. nat_le z 0) zs) (of_each 0 rows zs) in
      let one = counts_one 0 rows (min a rows) zs above (omega arith) in
      let h = count_all rows xs in
      omega (arith, e, f, g, one, h))
  | inr here ↦
      ap (λ b. length (cond b (min a rows ∷ filter (λ z. nat_le z 0) (of_those rows xs)) (filter (λ z. nat_le z 0) (of_those rows xs)) ++ of_each 0 rows (min a rows ∷ of_those rows xs))) (none_test (min a rows) (omega (arith, here)))
      ∙ (ap (λ l. suc (length (filter (λ z. nat_le z 0) (of_those rows xs) ++ l))) (behind 0 rows (min a rows) (of_those rows xs) here)
      ∙ ap suc (count_all rows xs))
]

-- a feed issues each request once
pub issues_each : (rows : ℕ) (xs : List ℕ) → length (issue_rows 0 (feed_from 0 0 xs rows)) ≡ length xs
issues_each rows xs = ap (λ (l : List ℕ). length l) (issues_all rows xs) ∙ count_all rows xs

-- ---- in order

none_here : (row k : ℕ) (zs : List ℕ) → AreRising k zs → row < k → filter (λ z. z == row) zs ≡ []
none_here row k [] rise lt = refl
none_here row k (z ∷ zs) rise lt =
    (let le = rise.0 in
    ap (λ b. cond b (z ∷ filter (λ z. z == row) zs) (filter (λ z. z == row) zs)) (other_test z row (inr (omega (arith, le, lt))))
    ∙ none_here row z zs rise.1 (omega (arith, le, lt)))

none_first : (k : ℕ) (zs : List ℕ) → AreRising k zs → 0 < k → filter (λ z. nat_le z 0) zs ≡ []
none_first k [] rise lt = refl
none_first k (z ∷ zs) rise lt =
    (let le = rise.0 in
    ap (λ b. cond b (z ∷ filter (λ z. nat_le z 0) zs) (filter (λ z. nat_le z 0) zs)) (some_test z (omega (arith, le, lt)))
    ∙ none_first z zs rise.1 (omega (arith, le, lt)))

-- the first of a list in order comes first
comes_first : (row left z : ℕ) (zs : List ℕ) → AreRising z zs → row < z → z ≤ row + left → of_each row left (z ∷ zs) ≡ z ∷ of_each row left zs
comes_first row zero z zs rise lt le = absurd (omega (arith, lt, le))
comes_first row (suc left) z zs rise lt le = elim (cases_lt (row + 1) z) [
  | inl above ↦
      ap (λ b. cond b (z ∷ filter (λ z. z == row + 1) zs) (filter (λ z. z == row + 1) zs) ++ of_each (row + 1) left (z ∷ zs)) (other_test z (row + 1) (inr above))
      ∙ (ap (λ l. l ++ of_each (row + 1) left (z ∷ zs)) (none_here (row + 1) z zs rise above)
      ∙ (comes_first (row + 1) left z zs rise above (omega (arith, le))
      ∙ ap (λ l. z ∷ (l ++ of_each (row + 1) left zs)) (sym (none_here (row + 1) z zs rise above))))
  | inr here ↦
      ap (λ b. cond b (z ∷ filter (λ z. z == row + 1) zs) (filter (λ z. z == row + 1) zs) ++ of_each (row + 1) left (z ∷ zs)) (equal_test z (row + 1) (omega (arith, here, lt)))
      ∙ ap (λ l. z ∷ (filter (λ z. z == row + 1) zs ++ l)) (behind (row + 1) left z zs here)
]

rising_those : (rows k : ℕ) (xs : List ℕ) → AreRising k xs → AreRising (min k rows) (of_those rows xs)
rising_those rows k [] rise = tt
rising_those rows k (a ∷ xs) rise = ((let le = rise.0 in omega (arith, le)), rising_those rows a xs rise.1)

all_in_order : (rows k : ℕ) (xs : List ℕ) → AreRising k xs → of_all rows (of_those rows xs) ≡ of_those rows xs
all_in_order rows k [] rise = none_each 0 rows
all_in_order rows k (a ∷ xs) rise = go (of_those rows xs) (rising_those rows a xs rise.1) (all_in_order rows a xs rise.1) (omega arith)
  where
    go : (zs : List ℕ) → AreRising (min a rows) zs → of_all rows zs ≡ zs → min a rows ≤ rows → of_all rows (min a rows ∷ zs) ≡ min a rows ∷ zs
    go zs up h le = elim (cases_lt 0 (min a rows)) [
      | inl above ↦
          ap (λ b. cond b (min a rows ∷ filter (λ z. nat_le z 0) zs) (filter (λ z. nat_le z 0) zs) ++ of_each 0 rows (min a rows ∷ zs)) (some_test (min a rows) above)
          ∙ (ap (λ l. l ++ of_each 0 rows (min a rows ∷ zs)) (none_first (min a rows) zs up above)
          ∙ (comes_first 0 rows (min a rows) zs up above (omega (arith, le))
          ∙ ap (λ l. min a rows ∷ l) (ap (λ l. l ++ of_each 0 rows zs) (sym (none_first (min a rows) zs up above)) ∙ h)))
      | inr here ↦
          ap (λ b. cond b (min a rows ∷ filter (λ z. nat_le z 0) zs) (filter (λ z. nat_le z 0) zs) ++ of_each 0 rows (min a rows ∷ zs)) (none_test (min a rows) (omega (arith, here)))
          ∙ ap (λ l. min a rows ∷ l) (ap (λ l. filter (λ z. nat_le z 0) zs ++ l) (behind 0 rows (min a rows) zs here) ∙ h)
    ]

-- a feed issues requests that are in order after the rows for which they wait
pub issues_in_order : (rows : ℕ) (xs : List ℕ) → AreRising 0 xs → issue_rows 0 (feed_from 0 0 xs rows) ≡ of_those rows xs
issues_in_order rows xs rise = issues_all rows xs ∙ all_in_order rows 0 xs rise

-- requests are issued in order
pub rising_rows : (from row : ℕ) (feeds : List Feed) → from ≤ row → AreRising from (issue_rows row feeds)
rising_rows from row [] le = tt
rising_rows from row (feed.Fed n ∷ more) le = rising_rows from (suc row) more (omega (arith, le))
rising_rows from row (feed.Issued r ∷ more) le = (le, rising_rows row row more (omega arith))
rising_rows from row (feed.Stopped ∷ more) le = rising_rows from row more le
