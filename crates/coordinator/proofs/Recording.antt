-- A live feeder that has stopped: the rows that its requests waited for are those of its feed.
use Rattle.std.proofs.Common.{◌≡◌, ◌∙◌, ◌+◌, ◌-◌, ◌==◌, ℕ, zero, suc, List, [], ◌∷◌, ◌++◌, refl, ap, true, false, Bool, cond, arith, length, min, append-nil}
use Rattle.std.specs.Prelude.{nat_le, replicate}
use Rattle.std.proofs.lemmas.List.{length-append}
use Rattle.sink_journal.specs.declared.journal.Feed.TheVariants as feed
use Rattle.tuple_trace.specs.declared.row.Row.{Row}
use Rattle.flow_model.specs.Begin.{Begin}
use Rattle.flow_model.specs.Feeding.{feed_after, feed_from, issued_after, issued_at_first, issued_where}
use Rattle.flow_model.specs.SetupView.{SetupView}
use Rattle.flow_model.proofs.FreshLemmas.{count_all, count_at_first, count_next, count_to}
use Rattle.coordinator.specs.Feeding.{IsFeeder, issue_rows, issued_in, waits}
use Rattle.coordinator.specs.Views.{FeederIs}
use Rattle.coordinator.proofs.LiveLemmas.{length_issue_rows, length_replicate}
use Rattle.coordinator.proofs.Sents.{issued_append}
use Rattle.coordinator.proofs.Waiting.{waits_from}

-- ---- a whole feed issues every request

issued_all : (test : ℕ → Bool) (rows r : ℕ) (xs : List ℕ) → issued_in (issued_where test rows r xs) ≡ length (issued_where test rows r xs)
issued_all test rows r [] = refl
issued_all test rows r (x ∷ xs) = go (test (min x rows)) (issued_all test rows (r + 1) xs)
  where
    go : (b : Bool) → issued_in (issued_where test rows (r + 1) xs) ≡ length (issued_where test rows (r + 1) xs)
        → issued_in (cond b (feed.Issued r ∷ issued_where test rows (r + 1) xs) (issued_where test rows (r + 1) xs))
        ≡ length (cond b (feed.Issued r ∷ issued_where test rows (r + 1) xs) (issued_where test rows (r + 1) xs))
    go true h = ap suc h
    go false h = h

count_after : (xs : List ℕ) (r row rows left : ℕ) → count_to row rows xs + issued_in (feed_after xs r row rows left) ≡ count_to (row + left) rows xs
count_after xs r row rows zero = let e : row + 0 ≡ row = omega arith in rw e (let k : count_to row rows xs + 0 ≡ count_to row rows xs = omega arith in k)
count_after xs r row rows (suc left) =
    let a : issued_in (issued_after (row + 1) rows r xs ++ feed_after xs r (row + 1) rows left) ≡ issued_in (issued_after (row + 1) rows r xs) + issued_in (feed_after xs r (row + 1) rows left) =
    issued_append (issued_after (row + 1) rows r xs) (feed_after xs r (row + 1) rows left) in
    let b : count_to row rows xs + issued_in (issued_after (row + 1) rows r xs) ≡ count_to (row + 1) rows xs =
    ap (λ k. count_to row rows xs + k) (issued_all (λ after. after == row + 1) rows r xs) ∙ count_next row rows r xs in
    let e : row + 1 + left ≡ row + suc left = omega arith in
    let c : count_to (row + 1) rows xs + issued_in (feed_after xs r (row + 1) rows left) ≡ count_to (row + suc left) rows xs =
    count_after xs r (row + 1) rows left ∙ ap (λ k. count_to k rows xs) e in
    omega arith

feed_issues : (rows : ℕ) (xs : List ℕ) → issued_in (feed_from 0 0 xs rows) ≡ length xs
feed_issues rows xs =
    let a : issued_in (issued_at_first 0 rows 1 xs ++ feed_after xs 1 0 rows (rows - 0)) ≡ issued_in (issued_at_first 0 rows 1 xs) + issued_in (feed_after xs 1 0 rows (rows - 0)) =
    issued_append (issued_at_first 0 rows 1 xs) (feed_after xs 1 0 rows (rows - 0)) in
    let b : issued_in (issued_at_first 0 rows 1 xs) ≡ count_to 0 rows xs =
    issued_all (λ after. nat_le after 0) rows 1 xs ∙ count_at_first rows 1 xs in
    let e : 0 + (rows - 0) ≡ rows = omega arith in
    let c : count_to 0 rows xs + issued_in (feed_after xs 1 0 rows (rows - 0)) ≡ length xs = count_after xs 1 0 rows (rows - 0) ∙ (ap (λ k. count_to k rows xs) e ∙ count_all rows xs) in
    omega arith

-- ---- the rows after which they were issued

module _ (setup : SetupView) (begin : Begin) (rows : List Row) (f : FeederIs) (law : IsFeeder true setup begin rows f) (first : begin.row ≡ 0) (unturned : begin.turned ≡ 0) (stopped : f.stopped ≡ true) where
  abbrev waited : List ℕ
  waited = waits true setup (length rows) f

  waited_are : waited ≡ issue_rows 0 f.feeds ++ replicate (length setup.requests - f.issued) (length rows)
  waited_are =
      waits_from setup rows f (law.feeding.begun.row_begun ∙ first)
      (law.feeding.begun.turned_begun ∙ unturned)

  as_many : issued_in f.feeds ≡ length waited
  as_many =
      ap issued_in (law.feeding.course.stopped stopped)
      ∙ (ap (λ r. issued_in (feed_from r begin.turned waited (length rows))) first
      ∙ (ap (λ t. issued_in (feed_from 0 t waited (length rows))) unturned ∙ feed_issues (length rows) waited))

  issued_is : f.issued ≡ issued_in f.feeds
  issued_is = omega (arith, law.feeding.course.counted, unturned)

  none_left : length setup.requests - f.issued ≡ 0
  none_left =
      let a = ap (λ (l : List ℕ). length l) waited_are in
      let b = length-append (issue_rows 0 f.feeds) (replicate (length setup.requests - f.issued) (length rows)) in
      let c = length_replicate (length setup.requests - f.issued) (length rows) in
      let d = length_issue_rows 0 f.feeds in
      let e = as_many in
      omega (arith, a, b, c, d, e)

  pub all_waited : waited ≡ issue_rows 0 f.feeds
  all_waited = waited_are ∙ (ap (λ k. issue_rows 0 f.feeds ++ replicate k (length rows)) none_left ∙ append-nil (issue_rows 0 f.feeds))

  pub all_issued : length (issue_rows 0 f.feeds) ≡ length setup.requests
  all_issued = (let a = length_issue_rows 0 f.feeds in let b = issued_is in let c = none_left in let le = law.issued_exist in omega (arith, a, b, c, le))
