-- A run from a beginning on says nothing of the rows up to the beginning's row.
use Rattle.std.proofs.Common.{◌≡◌, ◌∙◌, ◌<◌, ◌≤◌, ◌+◌, ◌-◌, ◌++◌, ◌==◌, nat_le, ℕ, zero, suc, List, [], ◌∷◌, refl, sym, subst, ap, arith, Bool, true, false, cond, drop, length, min, Some, None, Option, slice_get}
use Rattle.jobs.specs.JobView.{JobView}
use Rattle.sink_journal.specs.declared.journal.Feed.{Feed}
use Rattle.sink_journal.specs.declared.journal.Feed.TheVariants as feed
use Rattle.tuple_trace.specs.declared.row.Row.{Row}
use Rattle.tuple_trace.specs.declared.tuple.Item.TheVariants as item
use Rattle.flow_model.specs.Begin.{Begin}
use Rattle.flow_model.specs.Feeding.{fed_put, fed_puts, feed_after, feed_from, issued_where, row_numbered}
use Rattle.flow_model.specs.Replay.{Put, items_on}
use Rattle.flow_model.specs.Requests.{afters}
use Rattle.flow_model.specs.Run.{IsRunFrom, Ran, put_by}
use Rattle.flow_model.specs.declared.topology.Lane.{Lane}

-- each row that is fed has a number above this one
abbrev FedAbove : ℕ → List Feed → Type 0
FedAbove n [] = Unit {0}
FedAbove n (feed.Fed number ∷ more) = (n < number) × FedAbove n more
FedAbove n (feed.Issued r ∷ more) = FedAbove n more
FedAbove n (feed.Stopped ∷ more) = FedAbove n more

above_issued : (n : ℕ) (test : ℕ → Bool) (rows r : ℕ) (xs : List ℕ) (more : List Feed) → FedAbove n more → FedAbove n (issued_where test rows r xs ++ more)
above_issued n test rows r [] more h = h
above_issued n test rows r (x ∷ xs) more h = go (test (min x rows)) (above_issued n test rows (r + 1) xs more h)
  where
    go : (b : Bool) → FedAbove n (issued_where test rows (r + 1) xs ++ more)
        → FedAbove n (cond b (feed.Issued r ∷ issued_where test rows (r + 1) xs) (issued_where test rows (r + 1) xs) ++ more)
    go true k = k
    go false k = k

above_after : (n : ℕ) (xs : List ℕ) (r row rows left : ℕ) → n ≤ row → FedAbove n (feed_after xs r row rows left)
above_after n xs r row rows zero le = tt
above_after n xs r row rows (suc left) le =
    (omega arith, above_issued n (λ after. after == row + 1) rows r xs (feed_after xs r (row + 1) rows left) (above_after n xs r (row + 1) rows left (omega arith)))

above : (n issued : ℕ) (waits : List ℕ) (rows : ℕ) → FedAbove n (feed_from n issued waits rows)
above n issued waits rows =
    above_issued n (λ after. nat_le after n) rows (issued + 1) (drop issued waits) (feed_after (drop issued waits) (issued + 1) n rows (rows - n))
    (above_after n (drop issued waits) (issued + 1) n rows (rows - n) (omega arith))

get_beyond : {A : Type 0} (n place : ℕ) (xs ys : List A) → n ≤ place → drop n xs ≡ drop n ys → slice_get xs place ≡ slice_get ys place
get_beyond n place xs ys le e =
    let k : place ≡ n + (place - n) = omega arith in
    get_dropped n place (place - n) xs k ∙ (ap (λ l. slice_get l (place - n)) e ∙ sym (get_dropped n place (place - n) ys k))
  where
    get_dropped : {A : Type 0} (n place more : ℕ) (xs : List A) → place ≡ n + more → slice_get xs place ≡ slice_get (drop n xs) more
    get_dropped zero place more xs e = let f : place ≡ more = omega arith in ap (slice_get xs) f
    get_dropped (suc n) place more [] e = refl
    get_dropped (suc n) zero more (x ∷ xs) e = absurd (omega arith)
    get_dropped (suc n) (suc place) more (x ∷ xs) e = get_dropped n place more xs (omega arith)

row_beyond : (n number : ℕ) (xs ys : List Row) → n < number → drop n xs ≡ drop n ys → row_numbered xs number ≡ row_numbered ys number
row_beyond n zero xs ys lt e = absurd (omega arith)
row_beyond n (suc place) xs ys lt e = get_beyond n place xs ys (omega arith) e

puts_beyond : (job : JobView) (n issued : ℕ) (xs ys : List Row) (feeds : List Feed) → FedAbove n feeds → drop n xs ≡ drop n ys → fed_puts job xs issued feeds ≡ fed_puts job ys issued feeds
puts_beyond job n issued xs ys [] h e = refl
puts_beyond job n issued xs ys (feed.Fed number ∷ more) h e =
    ap (λ o. fed_put job issued o ++ fed_puts job xs issued more) (row_beyond n number xs ys h.0 e)
    ∙ ap (λ (l : List Put). fed_put job issued (row_numbered ys number) ++ l) (puts_beyond job n issued xs ys more h.1 e)
puts_beyond job n issued xs ys (feed.Issued r ∷ more) h e = puts_beyond job n (issued + 1) xs ys more h e
puts_beyond job n issued xs ys (feed.Stopped ∷ more) h e = puts_beyond job n issued xs ys more h e

pub run_of_others : (begin : Begin) (xs ys : List Row) (ran : Ran) → length ys ≡ length xs → drop begin.row ys ≡ drop begin.row xs → IsRunFrom begin xs ran → IsRunFrom begin ys ran
run_of_others begin xs ys ran same beyond is = record {
  feed = feed_is;
  one_start_each = is.one_start_each;
  one_journal_each = is.one_journal_each;
  one_state_each = is.one_state_each;
  worked = is.worked;
  conserved = λ k lane journal at j. put_same lane lane.sender ∙ is.conserved k lane journal at j;
}
  where
    feed_is : ran.feeds ≡ feed_from begin.row begin.turned (afters ran.setup.requests) (length ys)
    feed_is = is.feed ∙ ap (feed_from begin.row begin.turned (afters ran.setup.requests)) (sym same)

    fed_above : FedAbove begin.row ran.feeds
    fed_above = subst (FedAbove begin.row) (sym is.feed) (above begin.row begin.turned (afters ran.setup.requests) (length xs))

    put_same : (lane : Lane) (sender : Option ℕ) → put_by begin ys ran lane sender ≡ put_by begin xs ran lane sender
    put_same lane None =
        ap (λ (puts : List Put). Some (items_on lane puts ++ item.Last ∷ []))
        (puts_beyond ran.setup.job begin.row begin.turned ys xs ran.feeds fed_above beyond)
    put_same lane (Some worker) = refl
