-- The feeds of both parts are together the feed of the whole run, and feed the same tuples.
use Rattle.std.proofs.Common.{◌≡◌, ◌∙◌, ◌<◌, ◌≤◌, ◌+◌, ◌-◌, ◌++◌, ◌==◌, ℕ, zero, suc, List, [], ◌∷◌, inl, inr, refl, sym, ap, arith, append_assoc, true, false, Bool, cond, length, min, nat_le, take, Some, None, Option}
use Rattle.std.proofs.lemmas.Bool.Decides.{nat_tests}
use Rattle.std.proofs.lemmas.List.{append-nil}
use Rattle.jobs.specs.JobView.{JobView}
use Rattle.sink_journal.specs.declared.journal.Feed.{Feed}
use Rattle.sink_journal.specs.declared.journal.Feed.TheVariants as feed
use Rattle.tuple_trace.specs.declared.row.Row.{Row}
use Rattle.tuple_trace.specs.declared.tuple.Item.TheVariants as item
use Rattle.tuple_trace.specs.declared.tuple.Tuple.{Tuple}
use Rattle.flow_model.specs.Feeding.{fed_put, fed_puts, fed_tuple, feed_after, feed_from, issued_after, issued_at_first, issued_where, row_numbered}
use Rattle.flow_model.specs.Replay.{Put}
use Rattle.flow_model.proofs.ElementLemmas.{IsIn, in_cases}
use Rattle.flow_model.proofs.FreshLemmas.{count_all, count_at_first, count_next, count_to}
use Rattle.savepoint.specs.Parts.{unstopped}
use Rattle.savepoint.proofs.CutLemmas.{get_take}

-- ---- requests that are issued

issued_append : (test : ℕ → Bool) (rows r next : ℕ) (xs ys : List ℕ) → next ≡ r + length xs → issued_where test rows r (xs ++ ys) ≡ issued_where test rows r xs ++ issued_where test rows next ys
issued_append test rows r next [] ys e = let f : r ≡ next = omega arith in ap (λ k. issued_where test rows k ys) f
issued_append test rows r next (x ∷ xs) ys e = go (test (min x rows)) (issued_append test rows (r + 1) next xs ys (omega arith))
  where
    go : (b : Bool) → issued_where test rows (r + 1) (xs ++ ys) ≡ issued_where test rows (r + 1) xs ++ issued_where test rows next ys
        → cond b (feed.Issued r ∷ issued_where test rows (r + 1) (xs ++ ys)) (issued_where test rows (r + 1) (xs ++ ys))
        ≡ cond b (feed.Issued r ∷ issued_where test rows (r + 1) xs) (issued_where test rows (r + 1) xs) ++ issued_where test rows next ys
    go true h = ap (λ (l : List Feed). feed.Issued r ∷ l) h
    go false h = h

issued_none : (test : ℕ → Bool) (rows r : ℕ) (xs : List ℕ) → ((x : ℕ) → IsIn x xs → test (min x rows) ≡ false) → issued_where test rows r xs ≡ []
issued_none test rows r [] h = refl
issued_none test rows r (x ∷ xs) h = rw (h x (inl refl)) (issued_none test rows (r + 1) xs (λ y i. h y (inr i)))

issued_same : (test : ℕ → Bool) (rows n r : ℕ) (xs : List ℕ) → ((x : ℕ) → IsIn x xs → min x rows ≡ min x n) → issued_where test rows r xs ≡ issued_where test n r xs
issued_same test rows n r [] h = refl
issued_same test rows n r (x ∷ xs) h =
    let later : issued_where test rows (r + 1) xs ≡ issued_where test n (r + 1) xs = issued_same test rows n (r + 1) xs (λ y i. h y (inr i)) in
    ap (λ k. cond (test k) (feed.Issued r ∷ issued_where test rows (r + 1) xs) (issued_where test rows (r + 1) xs)) (h x (inl refl))
    ∙ ap (λ (l : List Feed). cond (test (min x n)) (feed.Issued r ∷ l) l) later

-- two tests that agree on each row that is waited for
issued_alike : (p q : ℕ → Bool) (rows r : ℕ) (xs : List ℕ) → ((x : ℕ) → IsIn x xs → p (min x rows) ≡ q (min x rows)) → issued_where p rows r xs ≡ issued_where q rows r xs
issued_alike p q rows r [] h = refl
issued_alike p q rows r (x ∷ xs) h =
    let later : issued_where p rows (r + 1) xs ≡ issued_where q rows (r + 1) xs = issued_alike p q rows (r + 1) xs (λ y i. h y (inr i)) in
    ap (λ b. cond b (feed.Issued r ∷ issued_where p rows (r + 1) xs) (issued_where p rows (r + 1) xs)) (h x (inl refl))
    ∙ ap (λ (l : List Feed). cond (q (min x rows)) (feed.Issued r ∷ l) l) later

issued_unstopped : (test : ℕ → Bool) (rows r : ℕ) (xs : List ℕ) (more : List Feed) → unstopped (issued_where test rows r xs ++ more) ≡ issued_where test rows r xs ++ unstopped more
issued_unstopped test rows r [] more = refl
issued_unstopped test rows r (x ∷ xs) more = go (test (min x rows)) (issued_unstopped test rows (r + 1) xs more)
  where
    go : (b : Bool) → unstopped (issued_where test rows (r + 1) xs ++ more) ≡ issued_where test rows (r + 1) xs ++ unstopped more
        → unstopped (cond b (feed.Issued r ∷ issued_where test rows (r + 1) xs) (issued_where test rows (r + 1) xs) ++ more)
        ≡ cond b (feed.Issued r ∷ issued_where test rows (r + 1) xs) (issued_where test rows (r + 1) xs) ++ unstopped more
    go true h = ap (λ (l : List Feed). feed.Issued r ∷ l) h
    go false h = h

not_le : (m k n : ℕ) → n < m → k ≤ n → nat_le m k ≡ false
not_le m k n lt le = grind (arith, nat_tests)

not_eq_at : (m k n : ℕ) → n ≤ m → k < n → (m == k) ≡ false
not_eq_at m k n le lt = grind (arith, nat_tests)

eq_le : (m k n : ℕ) → k ≡ n → n ≤ m → (m == k) ≡ nat_le m n
eq_le m k n e le = grind (arith, nat_tests)

le_zero : (m n : ℕ) → n ≡ 0 → nat_le m 0 ≡ nat_le m n
le_zero m n e = grind (arith, nat_tests)

not_eq_below : (m k n : ℕ) → m ≤ n → n < k → (m == k) ≡ false
not_eq_below m k n le lt = grind (arith, nat_tests)

-- There are `rows` rows, of which the first part has n. The first requests wait for xs, which are due by row n; the later ones wait
-- for ys, which aren't due before it. A later request that is due at row n itself is issued by the second part, before its first row.
module _ (rows n : ℕ) (xs ys : List ℕ) (within : n ≤ rows) (early : (x : ℕ) → IsIn x xs → min x rows ≤ n) (late : (y : ℕ) → IsIn y ys → n ≤ min y rows) where
  same_min : (x : ℕ) → IsIn x xs → min x rows ≡ min x n
  same_min x i = let le : min x rows ≤ n = early x i in omega arith

  -- what the second part issues before its first row: the later requests that are due at row n
  abbrev middle : List Feed
  middle = issued_at_first n rows (1 + length xs) ys

  -- before row n, the whole issues what the first part does
  first_issued : (test : ℕ → Bool) → ((y : ℕ) → n ≤ y → test y ≡ false) → issued_where test rows 1 (xs ++ ys) ≡ issued_where test n 1 xs
  first_issued test none =
      issued_append test rows 1 (1 + length xs) xs ys refl
      ∙ (ap (λ (l : List Feed). issued_where test rows 1 xs ++ l) (issued_none test rows (1 + length xs) ys (λ y i. none (min y rows) (late y i)))
      ∙ (append-nil (issued_where test rows 1 xs) ∙ issued_same test rows n 1 xs same_min))

  -- at row n, the whole issues what the first part does, and then what the second part does before its first row
  both_issued : (test : ℕ → Bool) → ((y : ℕ) → n ≤ y → test y ≡ nat_le y n) → issued_where test rows 1 (xs ++ ys) ≡ issued_where test n 1 xs ++ middle
  both_issued test same =
      issued_append test rows 1 (1 + length xs) xs ys refl
      ∙ (ap (λ (l : List Feed). l ++ issued_where test rows (1 + length xs) ys) (issued_same test rows n 1 xs same_min)
      ∙ ap (λ (l : List Feed). issued_where test n 1 xs ++ l) (issued_alike test (λ after. nat_le after n) rows (1 + length xs) ys (λ y i. same (min y rows) (late y i))))

  -- after row n, the whole issues what the second part does
  second_issued : (test : ℕ → Bool) → ((x : ℕ) → x ≤ n → test x ≡ false) → issued_where test rows 1 (xs ++ ys) ≡ issued_where test rows (1 + length xs) ys
  second_issued test none =
      issued_append test rows 1 (1 + length xs) xs ys refl
      ∙ ap (λ (l : List Feed). l ++ issued_where test rows (1 + length xs) ys) (issued_none test rows 1 xs (λ x i. none (min x rows) (early x i)))

  first_after : (row left more all : ℕ) → row + suc left ≡ n → all ≡ suc (left + more)
      → feed_after (xs ++ ys) 1 row rows all ≡ unstopped (feed_after xs 1 row n (suc left)) ++ (middle ++ feed_after (xs ++ ys) 1 n rows more)
  first_after row zero more all e f =
      let g : all ≡ suc more = omega arith in
      let h : row + 1 ≡ n = omega arith in
      let issued : List Feed = issued_after (row + 1) n 1 xs in
      let rest : List Feed = feed_after (xs ++ ys) 1 n rows more in
      let same : issued_after (row + 1) rows 1 (xs ++ ys) ≡ issued ++ middle = both_issued (λ after. after == row + 1) (λ y le. eq_le y (row + 1) n h le) in
      let front : unstopped (issued ++ feed.Stopped ∷ []) ≡ issued = issued_unstopped (λ after. after == row + 1) n 1 xs (feed.Stopped ∷ []) ∙ append-nil issued in
      ap (feed_after (xs ++ ys) 1 row rows) g
      ∙ ap (λ (l : List Feed). feed.Fed (row + 1) ∷ l)
      (ap (λ (l : List Feed). l ++ feed_after (xs ++ ys) 1 (row + 1) rows more) same
      ∙ (ap (λ k. (issued ++ middle) ++ feed_after (xs ++ ys) 1 k rows more) h
      ∙ (append_assoc issued middle rest
      ∙ ap (λ (l : List Feed). l ++ (middle ++ rest)) (sym front))))
  first_after row (suc left) more all e f =
      let g : all ≡ suc (suc (left + more)) = omega arith in
      let issued : List Feed = issued_after (row + 1) n 1 xs in
      let rest : List Feed = middle ++ feed_after (xs ++ ys) 1 n rows more in
      let same : issued_after (row + 1) rows 1 (xs ++ ys) ≡ issued = first_issued (λ after. after == row + 1) (λ y le. not_eq_at y (row + 1) n le (omega arith)) in
      let later : feed_after (xs ++ ys) 1 (row + 1) rows (suc (left + more)) ≡ unstopped (feed_after xs 1 (row + 1) n (suc left)) ++ rest =
      first_after (row + 1) left more (suc (left + more)) (omega arith) refl in
      ap (feed_after (xs ++ ys) 1 row rows) g
      ∙ ap (λ (l : List Feed). feed.Fed (row + 1) ∷ l)
      (ap (λ (l : List Feed). l ++ feed_after (xs ++ ys) 1 (row + 1) rows (suc (left + more))) same
      ∙ (ap (λ (l : List Feed). issued ++ l) later
      ∙ (sym (append_assoc issued (unstopped (feed_after xs 1 (row + 1) n (suc left))) rest)
      ∙ ap (λ (l : List Feed). l ++ rest) (sym (issued_unstopped (λ after. after == row + 1) n 1 xs (feed_after xs 1 (row + 1) n (suc left)))))))

  second_after : (row left : ℕ) → n ≤ row → feed_after (xs ++ ys) 1 row rows left ≡ feed_after ys (1 + length xs) row rows left
  second_after row zero le = refl
  second_after row (suc left) le =
      let same : issued_after (row + 1) rows 1 (xs ++ ys) ≡ issued_after (row + 1) rows (1 + length xs) ys = second_issued (λ after. after == row + 1) (λ x e. not_eq_below x (row + 1) n e (omega arith)) in
      ap (λ (l : List Feed). feed.Fed (row + 1) ∷ l)
      (ap (λ (l : List Feed). l ++ feed_after (xs ++ ys) 1 (row + 1) rows left) same
      ∙ ap (λ (l : List Feed). issued_after (row + 1) rows (1 + length xs) ys ++ l) (second_after (row + 1) left (omega arith)))

  pub feeds_both : feed_from 0 0 (xs ++ ys) rows ≡ unstopped (feed_from 0 0 xs n) ++ (issued_at_first n rows (1 + length xs) ys ++ feed_after ys (1 + length xs) n rows (rows - n))
  feeds_both = go n refl
    where
      front : List Feed
      front = issued_at_first 0 n 1 xs

      last : List Feed
      last = feed_after ys (1 + length xs) n rows (rows - n)

      go : (k : ℕ) → n ≡ k → feed_from 0 0 (xs ++ ys) rows ≡ unstopped (feed_from 0 0 xs n) ++ (middle ++ last)
      go zero e =
          let same : issued_at_first 0 rows 1 (xs ++ ys) ≡ front ++ middle = both_issued (λ after. nat_le after 0) (λ y le. le_zero y n e) in
          let none : n - 0 ≡ 0 = omega arith in
          let first : unstopped (feed_from 0 0 xs n) ≡ front =
          ap (λ k. unstopped (front ++ feed_after xs 1 0 n k)) none ∙ (issued_unstopped (λ after. nat_le after 0) n 1 xs (feed.Stopped ∷ []) ∙ append-nil front) in
          let second : feed_after (xs ++ ys) 1 0 rows (rows - 0) ≡ last =
          ap (λ k. feed_after (xs ++ ys) 1 k rows (rows - k)) (sym e) ∙ second_after n (rows - n) (omega arith) in
          ap (λ (l : List Feed). l ++ feed_after (xs ++ ys) 1 0 rows (rows - 0)) same
          ∙ (ap (λ (l : List Feed). (front ++ middle) ++ l) second
          ∙ (append_assoc front middle last
          ∙ ap (λ (l : List Feed). l ++ (middle ++ last)) (sym first)))
      go (suc k) e =
          let same : issued_at_first 0 rows 1 (xs ++ ys) ≡ front = first_issued (λ after. nat_le after 0) (λ y le. not_le y 0 0 (omega arith) (omega arith)) in
          let some : n - 0 ≡ suc k = omega arith in
          let whole : feed_after (xs ++ ys) 1 0 rows (rows - 0) ≡ unstopped (feed_after xs 1 0 n (suc k)) ++ (middle ++ feed_after (xs ++ ys) 1 n rows (rows - n)) =
          first_after 0 k (rows - n) (rows - 0) (omega arith) (omega arith) in
          let second : feed_after (xs ++ ys) 1 n rows (rows - n) ≡ last = second_after n (rows - n) (omega arith) in
          let first : unstopped (feed_from 0 0 xs n) ≡ front ++ unstopped (feed_after xs 1 0 n (suc k)) =
          ap (λ k. unstopped (front ++ feed_after xs 1 0 n k)) some ∙ issued_unstopped (λ after. nat_le after 0) n 1 xs (feed_after xs 1 0 n (suc k)) in
          ap (λ (l : List Feed). l ++ feed_after (xs ++ ys) 1 0 rows (rows - 0)) same
          ∙ (ap (λ (l : List Feed). front ++ l) (whole ∙ ap (λ (l : List Feed). unstopped (feed_after xs 1 0 n (suc k)) ++ (middle ++ l)) second)
          ∙ (sym (append_assoc front (unstopped (feed_after xs 1 0 n (suc k))) (middle ++ last))
          ∙ ap (λ (l : List Feed). l ++ (middle ++ last)) (sym first)))

-- ---- what is fed

-- how many requests a feed issues
abbrev pub issued_in : List Feed → ℕ
issued_in [] = 0
issued_in (feed.Fed row ∷ more) = issued_in more
issued_in (feed.Issued request ∷ more) = suc (issued_in more)
issued_in (feed.Stopped ∷ more) = issued_in more

pub fed_puts-append : (job : JobView) (rows : List Row) (issued next : ℕ) (xs ys : List Feed) → next ≡ issued + issued_in xs
    → fed_puts job rows issued (xs ++ ys) ≡ fed_puts job rows issued xs ++ fed_puts job rows next ys
fed_puts-append job rows issued next [] ys e = let f : issued ≡ next = omega arith in ap (λ k. fed_puts job rows k ys) f
fed_puts-append job rows issued next (feed.Fed number ∷ xs) ys e =
    let here : List Put = fed_put job issued (row_numbered rows number) in
    ap (λ (l : List Put). here ++ l) (fed_puts-append job rows issued next xs ys e) ∙ sym (append_assoc here (fed_puts job rows issued xs) (fed_puts job rows next ys))
fed_puts-append job rows issued next (feed.Issued r ∷ xs) ys e = fed_puts-append job rows (issued + 1) next xs ys (omega arith)
fed_puts-append job rows issued next (feed.Stopped ∷ xs) ys e = fed_puts-append job rows issued next xs ys e

-- each row that is fed has a number up to this one
abbrev pub FedUpTo : ℕ → List Feed → Type 0
FedUpTo n [] = Unit {0}
FedUpTo n (feed.Fed number ∷ more) = (number ≤ n) × FedUpTo n more
FedUpTo n (feed.Issued r ∷ more) = FedUpTo n more
FedUpTo n (feed.Stopped ∷ more) = FedUpTo n more

issued_up : (n : ℕ) (test : ℕ → Bool) (rows r : ℕ) (xs : List ℕ) (more : List Feed) → FedUpTo n more → FedUpTo n (issued_where test rows r xs ++ more)
issued_up n test rows r [] more h = h
issued_up n test rows r (x ∷ xs) more h = go (test (min x rows)) (issued_up n test rows (r + 1) xs more h)
  where
    go : (b : Bool) → FedUpTo n (issued_where test rows (r + 1) xs ++ more)
        → FedUpTo n (cond b (feed.Issued r ∷ issued_where test rows (r + 1) xs) (issued_where test rows (r + 1) xs) ++ more)
    go true h = h
    go false h = h

after_up : (n : ℕ) (xs : List ℕ) (r row rows left : ℕ) → row + left ≤ n → FedUpTo n (feed_after xs r row rows left)
after_up n xs r row rows zero le = tt
after_up n xs r row rows (suc left) le =
    (omega arith, issued_up n (λ after. after == row + 1) rows r xs (feed_after xs r (row + 1) rows left) (after_up n xs r (row + 1) rows left (omega arith)))

pub feed_up : (n : ℕ) (xs : List ℕ) → FedUpTo n (feed_from 0 0 xs n)
feed_up n xs = issued_up n (λ after. nat_le after 0) n 1 xs (feed_after xs 1 0 n (n - 0)) (after_up n xs 1 0 n (n - 0) (omega arith))

row_first : (rows : List Row) (n number : ℕ) → number ≤ n → row_numbered (take n rows) number ≡ row_numbered rows number
row_first rows n zero le = refl
row_first rows n (suc place) le = get_take n place rows (omega arith)

-- the first part feeds what the whole does
pub fed_puts_first : (job : JobView) (rows : List Row) (n issued : ℕ) (feeds : List Feed) → FedUpTo n feeds → fed_puts job (take n rows) issued feeds ≡ fed_puts job rows issued (unstopped feeds)
fed_puts_first job rows n issued [] h = refl
fed_puts_first job rows n issued (feed.Fed number ∷ more) h =
    ap (λ o. fed_put job issued o ++ fed_puts job (take n rows) issued more) (row_first rows n number h.0)
    ∙ ap (λ (l : List Put). fed_put job issued (row_numbered rows number) ++ l) (fed_puts_first job rows n issued more h.1)
fed_puts_first job rows n issued (feed.Issued r ∷ more) h = fed_puts_first job rows n (issued + 1) more h
fed_puts_first job rows n issued (feed.Stopped ∷ more) h = fed_puts_first job rows n issued more h

-- a tuple was fed under no more requests than the feed issues
pub fed_issued : (job : JobView) (rows : List Row) (issued : ℕ) (feeds : List Feed) (p : Put) (t : Tuple) → IsIn p (fed_puts job rows issued feeds) → p.item ≡ item.Carry t → t.issued ≤ issued + issued_in feeds
fed_issued job rows issued [] p t i e = absurd i
fed_issued job rows issued (feed.Fed number ∷ more) p t i e =
    elim (in_cases p (fed_put job issued (row_numbered rows number)) (fed_puts job rows issued more) i) [
      | inl a ↦ go (row_numbered rows number) a
      | inr b ↦ fed_issued job rows issued more p t b e
    ]
  where
    go : (o : Option Row) → IsIn p (fed_put job issued o) → t.issued ≤ issued + issued_in more
    go None i = absurd i
    go (Some row) (inl q) =
        let c : item.Carry (fed_tuple issued row) ≡ item.Carry t = sym (ap (λ (p : Put). p.item) q) ∙ e in
        let same : fed_tuple issued row ≡ t = cc in
        let k : t.issued ≡ issued = sym (ap (λ (t : Tuple). t.issued) same) in
        omega arith
    go (Some row) (inr i) = absurd i
fed_issued job rows issued (feed.Issued r ∷ more) p t i e = let le : t.issued ≤ issued + 1 + issued_in more = fed_issued job rows (issued + 1) more p t i e in omega arith
fed_issued job rows issued (feed.Stopped ∷ more) p t i e = fed_issued job rows issued more p t i e

-- ---- how many requests a feed issues

issued_in-append : (xs ys : List Feed) → issued_in (xs ++ ys) ≡ issued_in xs + issued_in ys
issued_in-append [] ys = omega arith
issued_in-append (feed.Fed row ∷ xs) ys = issued_in-append xs ys
issued_in-append (feed.Issued r ∷ xs) ys = let h : issued_in (xs ++ ys) ≡ issued_in xs + issued_in ys = issued_in-append xs ys in omega arith
issued_in-append (feed.Stopped ∷ xs) ys = issued_in-append xs ys

pub issued_in_unstopped : (xs : List Feed) → issued_in (unstopped xs) ≡ issued_in xs
issued_in_unstopped [] = refl
issued_in_unstopped (feed.Fed row ∷ xs) = issued_in_unstopped xs
issued_in_unstopped (feed.Issued r ∷ xs) = ap suc (issued_in_unstopped xs)
issued_in_unstopped (feed.Stopped ∷ xs) = issued_in_unstopped xs

issued_all : (test : ℕ → Bool) (rows r : ℕ) (xs : List ℕ) → issued_in (issued_where test rows r xs) ≡ length (issued_where test rows r xs)
issued_all test rows r [] = refl
issued_all test rows r (x ∷ xs) = go (test (min x rows)) (issued_all test rows (r + 1) xs)
  where
    go : (b : Bool) → issued_in (issued_where test rows (r + 1) xs) ≡ length (issued_where test rows (r + 1) xs)
        → issued_in (cond b (feed.Issued r ∷ issued_where test rows (r + 1) xs) (issued_where test rows (r + 1) xs))
        ≡ length (cond b (feed.Issued r ∷ issued_where test rows (r + 1) xs) (issued_where test rows (r + 1) xs))
    go true h = ap suc h
    go false h = h

count_after : (xs : List ℕ) (r row rows left : ℕ) → count_to row rows xs + issued_in (feed_after xs r row rows left) ≡ count_to (row + left) rows xs
count_after xs r row rows zero = let e : row + 0 ≡ row = omega arith in rw e (let k : count_to row rows xs + 0 ≡ count_to row rows xs = omega arith in k)
count_after xs r row rows (suc left) =
    let a : issued_in (issued_after (row + 1) rows r xs ++ feed_after xs r (row + 1) rows left) ≡ issued_in (issued_after (row + 1) rows r xs) + issued_in (feed_after xs r (row + 1) rows left) =
    issued_in-append (issued_after (row + 1) rows r xs) (feed_after xs r (row + 1) rows left) in
    let b : count_to row rows xs + issued_in (issued_after (row + 1) rows r xs) ≡ count_to (row + 1) rows xs =
    ap (λ k. count_to row rows xs + k) (issued_all (λ after. after == row + 1) rows r xs) ∙ count_next row rows r xs in
    let e : row + 1 + left ≡ row + suc left = omega arith in
    let c : count_to (row + 1) rows xs + issued_in (feed_after xs r (row + 1) rows left) ≡ count_to (row + suc left) rows xs =
    count_after xs r (row + 1) rows left ∙ ap (λ k. count_to k rows xs) e in
    omega arith

-- a whole feed issues every request
pub feed_issues : (rows : ℕ) (xs : List ℕ) → issued_in (feed_from 0 0 xs rows) ≡ length xs
feed_issues rows xs =
    let a : issued_in (issued_at_first 0 rows 1 xs ++ feed_after xs 1 0 rows (rows - 0)) ≡ issued_in (issued_at_first 0 rows 1 xs) + issued_in (feed_after xs 1 0 rows (rows - 0)) =
    issued_in-append (issued_at_first 0 rows 1 xs) (feed_after xs 1 0 rows (rows - 0)) in
    let b : issued_in (issued_at_first 0 rows 1 xs) ≡ count_to 0 rows xs =
    issued_all (λ after. nat_le after 0) rows 1 xs ∙ count_at_first rows 1 xs in
    let e : 0 + (rows - 0) ≡ rows = omega arith in
    let c : count_to 0 rows xs + issued_in (feed_after xs 1 0 rows (rows - 0)) ≡ length xs = count_after xs 1 0 rows (rows - 0) ∙ (ap (λ k. count_to k rows xs) e ∙ count_all rows xs) in
    omega arith
