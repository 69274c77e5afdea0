-- What of the feed is left.
use Rattle.std.proofs.Common.{◌≡◌, ◌∙◌, ◌==◌, ◌+◌, ◌-◌, ◌<◌, ◌≤◌, ℕ, zero, suc, List, [], ◌∷◌, ◌++◌, refl, ap, true, false, cond, arith, length, drop, min, Option, Some, None, slice_get}
use Rattle.std.specs.Prelude.{⊤, nat_le}
use Rattle.std.proofs.lemmas.Bool.{le-leb, lt-leb}
use Rattle.std.proofs.lemmas.Bool.Decides.{nat_tests}
use Rattle.sink_journal.specs.declared.journal.Feed.TheVariants.{Fed, Issued, Stopped}
use Rattle.versions.specs.Kept.{AreInOrder}
use Rattle.versions.specs.declared.request.Request.{Request}
use Rattle.flow_model.specs.Feeding.{feed_after, feed_from, issued_after, issued_at_first}
use Rattle.flow_model.specs.Requests.{afters}
use Rattle.coordinator.specs.Feeding.{AreRising}
use Rattle.coordinator.specs.Steps.{IsAhead}
use Rattle.coordinator.proofs.ListLemmas.{drop_at, drop_past}

pub rising : (row : ℕ) (requests : List Request) → AreInOrder row requests → AreRising row (afters requests)
rising row [] o = tt
rising row (q ∷ requests) o = (o.0, rising q.after requests o.1)

equal_test : (a b : ℕ) → a ≤ b → b ≤ a → (a == b) ≡ true
equal_test a b p q = grind (arith, nat_tests)

above_test : (a b : ℕ) → b < a → (a == b) ≡ false
above_test a b p = grind (arith, nat_tests)

below_test : (a b : ℕ) → a < b → (a == b) ≡ false
below_test a b p = grind (arith, nat_tests)

-- all of these wait for a later row
abbrev pub AreLater : ℕ → ℕ → List ℕ → Type 0
AreLater row rows [] = ⊤
AreLater row rows (after ∷ later) = (row < min after rows) × AreLater row rows later

pub later_rising : (row rows from : ℕ) (xs : List ℕ) → AreRising from xs → row < min from rows → AreLater row rows xs
later_rising row rows from [] o lt = tt
later_rising row rows from (a ∷ xs) o lt = let le = o.0 in (omega (arith, le, lt), later_rising row rows a xs o.1 (omega (arith, le, lt)))

-- in order, what is above the first is above all
pub later_behind : (xs : List ℕ) (from rows row k : ℕ) → AreRising from xs → IsAhead xs rows row k → AreLater row rows (drop k xs)
later_behind [] from rows row zero o u = tt
later_behind [] from rows row (suc k) o u = tt
later_behind (a ∷ xs) from rows row zero o u = (u a refl, later_rising row rows a xs o.1 (u a refl))
later_behind (a ∷ xs) from rows row (suc k) o u = later_behind xs a rows row k o.1 u

-- the first of them waits for no row behind this one, so none of what follows issues it
feed_skips : (after r row rows left : ℕ) (xs : List ℕ) → min after rows ≤ row → feed_after (after ∷ xs) r row rows left ≡ feed_after xs (r + 1) row rows left
feed_skips after r row rows zero xs le = refl
feed_skips after r row rows (suc left) xs le =
    let e : (min after rows == row + 1) ≡ false = below_test (min after rows) (row + 1) (omega (arith, le)) in
    ap (λ b. Fed (row + 1) ∷ (cond b (Issued r ∷ issued_after (row + 1) rows (r + 1) xs) (issued_after (row + 1) rows (r + 1) xs) ++ feed_after (after ∷ xs) r (row + 1) rows left)) e
    ∙ ap (λ l. Fed (row + 1) ∷ (issued_after (row + 1) rows (r + 1) xs ++ l)) (feed_skips after r (row + 1) rows left xs (omega (arith, le)))

-- the next request is issued next
pub rest_issue : (xs : List ℕ) (rows row issued after : ℕ) → slice_get xs issued ≡ Some after → min after rows ≤ row → feed_from row issued xs rows ≡ Issued (suc issued) ∷ feed_from row (suc issued) xs rows
rest_issue xs rows row issued after g le =
    let e : nat_le (min after rows) row ≡ true = le-leb (min after rows) row le in
    let d = drop_at xs issued after g in
    let one : issued + 1 ≡ suc issued = omega arith in
    let two : issued + 1 + 1 ≡ suc issued + 1 = omega arith in
    ap (λ l. issued_at_first row rows (issued + 1) l ++ feed_after l (issued + 1) row rows (rows - row)) d
    ∙ (ap (λ b. cond b (Issued (issued + 1) ∷ issued_at_first row rows (issued + 1 + 1) (drop (suc issued) xs)) (issued_at_first row rows (issued + 1 + 1) (drop (suc issued) xs)) ++ feed_after (after ∷ drop (suc issued) xs) (issued + 1) row rows (rows - row)) e
    ∙ (ap (λ l. Issued (issued + 1) ∷ (issued_at_first row rows (issued + 1 + 1) (drop (suc issued) xs) ++ l)) (feed_skips after (issued + 1) row rows (rows - row) (drop (suc issued) xs) le)
    ∙ (ap (λ n. Issued n ∷ (issued_at_first row rows (issued + 1 + 1) (drop (suc issued) xs) ++ feed_after (drop (suc issued) xs) (issued + 1 + 1) row rows (rows - row))) one
    ∙ ap (λ n. Issued (suc issued) ∷ (issued_at_first row rows n (drop (suc issued) xs) ++ feed_after (drop (suc issued) xs) n row rows (rows - row))) two)))

-- where all requests wait for later rows, none is issued
none_issued : (row rows r : ℕ) (xs : List ℕ) → AreLater row rows xs → issued_at_first row rows r xs ≡ []
none_issued row rows r [] h = refl
none_issued row rows r (a ∷ xs) h =
    let e : nat_le (min a rows) row ≡ false = lt-leb (min a rows) row h.0 in
    ap (λ b. cond b (Issued r ∷ issued_at_first row rows (r + 1) xs) (issued_at_first row rows (r + 1) xs)) e ∙ none_issued row rows (r + 1) xs h.1

-- and those that wait for the next row are those for a row up to it
same_issued : (row rows r : ℕ) (xs : List ℕ) → AreLater row rows xs → issued_after (row + 1) rows r xs ≡ issued_at_first (row + 1) rows r xs
same_issued row rows r [] h = refl
same_issued row rows r (a ∷ xs) h =
    let e : (min a rows == row + 1) ≡ nat_le (min a rows) (row + 1) = let lt = h.0 in grind (arith, nat_tests) in
    ap (λ b. cond b (Issued r ∷ issued_after (row + 1) rows (r + 1) xs) (issued_after (row + 1) rows (r + 1) xs)) e
    ∙ ap (λ l. cond (nat_le (min a rows) (row + 1)) (Issued r ∷ l) l) (same_issued row rows (r + 1) xs h.1)

-- the next row is fed next
pub rest_feed : (xs : List ℕ) (rows row issued : ℕ) → row < rows → AreLater row rows (drop issued xs) → feed_from row issued xs rows ≡ Fed (suc row) ∷ feed_from (suc row) issued xs rows
rest_feed xs rows row issued lt h =
    let one : rows - row ≡ suc (rows - suc row) = omega (arith, lt) in
    let next : row + 1 ≡ suc row = omega arith in
    ap (λ l. l ++ feed_after (drop issued xs) (issued + 1) row rows (rows - row)) (none_issued row rows (issued + 1) (drop issued xs) h)
    ∙ (ap (feed_after (drop issued xs) (issued + 1) row rows) one
    ∙ (ap (λ l. Fed (row + 1) ∷ (l ++ feed_after (drop issued xs) (issued + 1) (row + 1) rows (rows - suc row))) (same_issued row rows (issued + 1) (drop issued xs) h)
    ∙ ap (λ n. Fed n ∷ (issued_at_first n rows (issued + 1) (drop issued xs) ++ feed_after (drop issued xs) (issued + 1) n rows (rows - suc row))) next))

-- behind the last row all requests are issued
pub all_issued : (xs : List ℕ) (rows row issued : ℕ) → rows ≤ row → issued ≤ length xs → IsAhead xs rows row issued → issued ≡ length xs
all_issued xs rows row issued le w u = go (slice_get xs issued) refl
  where
    at_end : (a : ℕ) → rows ≤ row → row < min a rows → ⊥
    at_end a y z = absurd (omega (arith, y, z))

    past : (xs : List ℕ) (k : ℕ) → slice_get xs k ≡ None → length xs ≤ k
    past [] k h = omega arith
    past (x ∷ xs) zero h = absurd (cc)
    past (x ∷ xs) (suc k) h = let r = past xs k h in omega (arith, r)

    go : (o : Option ℕ) → slice_get xs issued ≡ o → issued ≡ length xs
    go None e = let p = past xs issued e in omega (arith, p, w)
    go (Some a) e = absurd (at_end a le (u a e))

pub rest_stop : (xs : List ℕ) (rows row issued : ℕ) → rows ≤ row → issued ≡ length xs → feed_from row issued xs rows ≡ Stopped ∷ []
rest_stop xs rows row issued le f =
    let d = drop_past xs issued (omega (arith, f)) in
    let z : rows - row ≡ 0 = omega (arith, le) in
    ap (λ l. issued_at_first row rows (issued + 1) l ++ feed_after l (issued + 1) row rows (rows - row)) d ∙ ap (feed_after [] (issued + 1) row rows) z
