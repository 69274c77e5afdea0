-- In a run a request is in force at the heads of its cover before tuples of later rows come there.
use Rattle.std.proofs.Common.{◌≡◌, ◌∙◌, ◌<◌, ◌≤◌, ◌+◌, ◌-◌, ◌++◌, ◌==◌, ℕ, zero, suc, List, [], ◌∷◌, inl, inr, refl, sym, subst, ap, arith, true, false, Bool, cond, length, min, nat_le, Some, None, Option, slice_get}
use Rattle.std.proofs.lemmas.Bool.{cases_lt, le-leb}
use Rattle.std.proofs.lemmas.Bool.Decides.{nat_tests}
use Rattle.std.proofs.lemmas.Option.{slice_get_within}
use Rattle.jobs.specs.JobView.{JobView}
use Rattle.cover_planner.specs.declared.cover.Plan.{Plan}
use Rattle.sink_journal.specs.Alerts.{met}
use Rattle.sink_journal.specs.declared.journal.Entry.{Entry}
use Rattle.sink_journal.specs.declared.journal.Entry.TheVariants as entry
use Rattle.sink_journal.specs.declared.journal.Feed.{Feed}
use Rattle.sink_journal.specs.declared.journal.Feed.TheVariants as feed
use Rattle.tuple_trace.specs.declared.row.Row.{Row}
use Rattle.tuple_trace.specs.declared.tuple.Item.TheVariants as item
use Rattle.tuple_trace.specs.declared.tuple.Tuple.{Tuple}
use Rattle.versions.specs.Kept.{AreInOrder}
use Rattle.versions.specs.declared.request.Request.{Request}
use Rattle.flow_model.specs.Covers.{covers, heads, is_head}
use Rattle.flow_model.specs.Feeding.{fed_put, fed_puts, fed_tuple, feed_after, feed_from, issued_after, issued_at_first, issued_where, row_numbered}
use Rattle.flow_model.specs.Fresh.{AreFreshFrom, IsFresh, IsFreshAt, IsFreshBefore, IsFreshUnder, IsHeadBefore, IsUpTo}
use Rattle.flow_model.specs.Law.{IsEnabled, IsExecution, IsInTime, Progress, after_entry, initial, later_dues, next_due}
use Rattle.flow_model.specs.SetupView.{SetupView, Worker}
use Rattle.flow_model.specs.Replay.{Put}
use Rattle.flow_model.specs.Requests.{afters, request_at}
use Rattle.flow_model.specs.Run.{Ran}
use Rattle.flow_model.specs.Duties.{duties}
use Rattle.flow_model.specs.Whole.{before_turn, is_turn, met_tuples}
use Rattle.flow_model.specs.Workers.{workers_in}
use Rattle.flow_model.proofs.ElementLemmas.{Before, IsIn, all_of_at, in_cases, in_filter_map, in_of_place, place_of_in}
use Rattle.flow_model.proofs.WorkerLemmas.{item_at, journal_is, journal_of, who_is, worker_no}
use Rattle.flow_model.proofs.PlannedLemmas.{HasCovers, due_covers, dues_rise}
use Rattle.flow_model.proofs.StoryLemmas.{IsRising, rising_from}
use Rattle.flow_model.proofs.MarkerLemmas.{turned_is_due}
use Rattle.flow_model.proofs.RunLemmas.{HasWorker, Running, execution, row_is, start_of, duties_of}
use Rattle.flow_model.proofs.LineageLemmas.{Address, Passed, passed}
use Rattle.flow_model.proofs.RootLemmas.{Root, Rooted, rooted}
use Rattle.flow_model.proofs.TurnLemmas.{met_is, rest_has}
use Rattle.flow_model.proofs.WholeLemmas.{covered_turns}

-- ---- how many requests were issued before a row

-- how many requests wait for this row or an earlier one, of so many rows
abbrev pub count_to : ℕ → ℕ → List ℕ → ℕ
count_to row rows [] = 0
count_to row rows (after ∷ waits) = cond (nat_le (min after rows) row) (suc (count_to row rows waits)) (count_to row rows waits)

pub count_all : (rows : ℕ) (xs : List ℕ) → count_to rows rows xs ≡ length xs
count_all rows [] = refl
count_all rows (x ∷ xs) = rw (le-leb (min x rows) rows (omega arith)) (ap suc (count_all rows xs))

pub count_at_first : (rows r : ℕ) (waits : List ℕ) → length (issued_at_first 0 rows r waits) ≡ count_to 0 rows waits
count_at_first rows r [] = refl
count_at_first rows r (after ∷ waits) = go (nat_le (min after rows) 0) (count_at_first rows (r + 1) waits)
  where
    go : (b : Bool) → length (issued_at_first 0 rows (r + 1) waits) ≡ count_to 0 rows waits
        → length (cond b (feed.Issued r ∷ issued_at_first 0 rows (r + 1) waits) (issued_at_first 0 rows (r + 1) waits)) ≡ cond b (suc (count_to 0 rows waits)) (count_to 0 rows waits)
    go true h = ap suc h
    go false h = h

pub count_next : (row rows r : ℕ) (waits : List ℕ) → count_to row rows waits + length (issued_after (row + 1) rows r waits) ≡ count_to (row + 1) rows waits
count_next row rows r [] = refl
count_next row rows r (after ∷ waits) =
    go (nat_le (min after rows) row) refl (min after rows == row + 1) refl (nat_le (min after rows) (row + 1)) refl (count_next row rows (r + 1) waits)
  where
    never_both : (m k : ℕ) → nat_le m k ≡ true → (m == k + 1) ≡ true → ⊥
    never_both m k a b = grind (arith, nat_tests)

    at_least_one : (m k : ℕ) → nat_le m k ≡ true → nat_le m (k + 1) ≡ false → ⊥
    at_least_one m k a b = grind (arith, nat_tests)

    or_other : (m k : ℕ) → (m == k + 1) ≡ true → nat_le m (k + 1) ≡ false → ⊥
    or_other m k a b = grind (arith, nat_tests)

    else_none : (m k : ℕ) → nat_le m k ≡ false → (m == k + 1) ≡ false → nat_le m (k + 1) ≡ true → ⊥
    else_none m k a b c = grind (arith, nat_tests)

    go : (a : Bool) → nat_le (min after rows) row ≡ a → (b : Bool) → (min after rows == row + 1) ≡ b → (c : Bool) → nat_le (min after rows) (row + 1) ≡ c
        → count_to row rows waits + length (issued_after (row + 1) rows (r + 1) waits) ≡ count_to (row + 1) rows waits
        → cond a (suc (count_to row rows waits)) (count_to row rows waits)
        + length (cond b (feed.Issued r ∷ issued_after (row + 1) rows (r + 1) waits) (issued_after (row + 1) rows (r + 1) waits))
        ≡ cond c (suc (count_to (row + 1) rows waits)) (count_to (row + 1) rows waits)
    go true e true f c k h = absurd (never_both (min after rows) row e f)
    go true e false f true k h = omega (arith, h)
    go true e false f false k h = absurd (at_least_one (min after rows) row e k)
    go false e true f true k h = omega (arith, h)
    go false e true f false k h = absurd (or_other (min after rows) row f k)
    go false e false f true k h = absurd (else_none (min after rows) row e f k)
    go false e false f false k h = h

-- what is issued raises the count of what is fed later
pub past_issued : (job : JobView) (rows : List Row) (test : ℕ → Bool) (total r issued : ℕ) (waits : List ℕ) (more : List Feed)
    → fed_puts job rows issued (issued_where test total r waits ++ more) ≡ fed_puts job rows (issued + length (issued_where test total r waits)) more
past_issued job rows test total r issued [] more = let e : issued ≡ issued + 0 = omega arith in ap (λ n. fed_puts job rows n more) e
past_issued job rows test total r issued (after ∷ waits) more = go (test (min after total)) (past_issued job rows test total (r + 1) (issued + 1) waits more) (past_issued job rows test total (r + 1) issued waits more)
  where
    go : (b : Bool)
        → fed_puts job rows (issued + 1) (issued_where test total (r + 1) waits ++ more) ≡ fed_puts job rows (issued + 1 + length (issued_where test total (r + 1) waits)) more
        → fed_puts job rows issued (issued_where test total (r + 1) waits ++ more) ≡ fed_puts job rows (issued + length (issued_where test total (r + 1) waits)) more
        → fed_puts job rows issued (cond b (feed.Issued r ∷ issued_where test total (r + 1) waits) (issued_where test total (r + 1) waits) ++ more)
        ≡ fed_puts job rows (issued + length (cond b (feed.Issued r ∷ issued_where test total (r + 1) waits) (issued_where test total (r + 1) waits))) more
    go true h k =
        let e : issued + 1 + length (issued_where test total (r + 1) waits) ≡ issued + suc (length (issued_where test total (r + 1) waits)) = omega arith in
        h ∙ ap (λ n. fed_puts job rows n more) e
    go false h k = k

-- a put carries a row under the requests that wait for an earlier one
record CountsIssued (rows : List Row) (total : ℕ) (waits : List ℕ) (p : Put) : Type 0 where
  before : ℕ
  row : Row
  there : row_numbered rows (before + 1) ≡ Some row
  item_is : p.item ≡ item.Carry (fed_tuple (count_to before total waits) row)

after_counts : (job : JobView) (rows : List Row) (waits : List ℕ) (r row total left : ℕ) (p : Put)
    → IsIn p (fed_puts job rows (count_to row total waits) (feed_after waits r row total left)) → CountsIssued rows total waits p
after_counts job rows waits r row total zero p h = absurd h
after_counts job rows waits r row total (suc left) p h =
    elim (in_cases p (fed_put job (count_to row total waits) (row_numbered rows (row + 1))) (fed_puts job rows (count_to row total waits) (issued_after (row + 1) total r waits ++ feed_after waits r (row + 1) total left)) h) [
      | inl a ↦ here (row_numbered rows (row + 1)) refl a
      | inr b ↦ after_counts job rows waits r (row + 1) total left p (
          subst (λ n. IsIn p (fed_puts job rows n (feed_after waits r (row + 1) total left))) (count_next row total r waits)
          (subst (λ (l : List Put). IsIn p l) (past_issued job rows (λ after. after == row + 1) total r (count_to row total waits) waits (feed_after waits r (row + 1) total left)) b))
    ]
  where
    here : (o : Option Row) → row_numbered rows (row + 1) ≡ o → IsIn p (fed_put job (count_to row total waits) o) → CountsIssued rows total waits p
    here None e i = absurd i
    here (Some x) e (inl q) = record { before = row; row = x; there = e; item_is = ap (λ (p : Put). p.item) q }
    here (Some x) e (inr n) = absurd n

-- each put of a run's feed does
feed_counts : (job : JobView) (rows : List Row) (waits : List ℕ) (total : ℕ) (p : Put) → IsIn p (fed_puts job rows 0 (feed_from 0 0 waits total)) → CountsIssued rows total waits p
feed_counts job rows waits total p h =
    let e : 0 + length (issued_at_first 0 total 1 waits) ≡ count_to 0 total waits = omega (arith, count_at_first total 1 waits) in
    after_counts job rows waits 1 0 total (total - 0) p (
    subst (λ n. IsIn p (fed_puts job rows n (feed_after waits 1 0 total (total - 0)))) e
    (subst (λ (l : List Put). IsIn p l) (past_issued job rows (λ after. nat_le after 0) total 1 0 waits (feed_after waits 1 0 total (total - 0))) h))

-- ---- requests in order

order_le : (row i : ℕ) (request : Request) (requests : List Request) → AreInOrder row requests → slice_get requests i ≡ Some request → row ≤ request.after
order_le row i request [] o g = absurd (cc)
order_le row zero request (q ∷ later) o g = let e : q ≡ request = cc in subst (λ (x : Request). row ≤ x.after) e o.0
order_le row (suc i) request (q ∷ later) o g = let le : q.after ≤ request.after = order_le q.after i request later o.1 g in let h = o.0 in omega arith

-- requests in order after a row are in order after an earlier one
pub order_weaker : (low high : ℕ) (requests : List Request) → low ≤ high → AreInOrder high requests → AreInOrder low requests
order_weaker low high [] le o = tt
order_weaker low high (request ∷ later) le o = (let h : high ≤ request.after = o.0 in omega arith, o.1)

-- a later request waits for no earlier row
pub order_rises : (row i j : ℕ) (a b : Request) (requests : List Request) → AreInOrder row requests → i ≤ j → slice_get requests i ≡ Some a → slice_get requests j ≡ Some b → a.after ≤ b.after
order_rises row i j a b [] o le g h = absurd (cc)
order_rises row zero zero a b (q ∷ later) o le g h = let e : a ≡ b = cc in let f : a.after ≡ b.after = ap (λ (x : Request). x.after) e in omega arith
order_rises row zero (suc j) a b (q ∷ later) o le g h = let e : q ≡ a = cc in subst (λ (x : Request). x.after ≤ b.after) e (order_le q.after j b later o.1 h)
order_rises row (suc i) zero a b (q ∷ later) o le g h = absurd (omega arith)
order_rises row (suc i) (suc j) a b (q ∷ later) o le g h = order_rises q.after i j a b later o.1 (omega arith) g h

-- a request that waits for an earlier row is counted, and so is each one before it
counted : (k total row i : ℕ) (request : Request) (requests : List Request) → AreInOrder row requests → slice_get requests i ≡ Some request → min request.after total ≤ k
    → suc i ≤ count_to k total (afters requests)
counted k total row i request [] o g le = absurd (cc)
counted k total row zero request (q ∷ later) o g le =
    let e : q ≡ request = cc in
    let h : min q.after total ≤ k = subst (λ (x : Request). min x.after total ≤ k) (sym e) le in
    subst (λ (b : Bool). 1 ≤ cond b (suc (count_to k total (afters later))) (count_to k total (afters later))) (sym (le-leb (min q.after total) k h)) (omega arith)
counted k total row (suc i) request (q ∷ later) o g le =
    let first : q.after ≤ request.after = order_le q.after i request later o.1 g in
    let more : suc i ≤ count_to k total (afters later) = counted k total q.after i request later o.1 g le in
    subst (λ (b : Bool). suc (suc i) ≤ cond b (suc (count_to k total (afters later))) (count_to k total (afters later))) (sym (le-leb (min q.after total) k (omega (arith, first, le)))) (omega (arith, more))

-- ---- fresh

-- a tuple that was fed under fewer requests than r is of a row up to the one after which r is issued
abbrev IsTimely : SetupView → ℕ → Tuple → Type 0
IsTimely setup rows t = (r : ℕ) (request : Request) → request_at setup r ≡ Some request → t.issued < r → t.row ≤ min request.after rows

-- the tuple at a root is of the row behind some number of rows, and was fed under the requests that wait for one of those
root_counts : (rows : List Row) (ran : Ran) (g : Running rows ran) (a : Address) (k : Root rows ran a)
    → (before : ℕ) × (k.tuple.row ≡ before + 1) × (k.tuple.issued ≡ count_to before (length rows) (afters ran.setup.requests))
root_counts rows ran g a k =
    let waits : List ℕ = afters ran.setup.requests in
    let c : CountsIssued rows (length rows) waits k.put =
    feed_counts ran.setup.job rows waits (length rows) k.put
    (subst (λ (f : List Feed). IsIn k.put (fed_puts ran.setup.job rows 0 f)) g.run.feed (in_of_place k.put (fed_puts ran.setup.job rows 0 ran.feeds) k.k k.put_is)) in
    let e : item.Carry k.tuple ≡ item.Carry (fed_tuple (count_to c.before (length rows) waits) c.row) = k.carries ∙ c.item_is in
    let same : k.tuple ≡ fed_tuple (count_to c.before (length rows) waits) c.row = cc in
    (c.before, ap (λ (t : Tuple). t.row) same ∙ (row_is rows (c.before + 1) c.row g.rows_are c.there).numbered, ap (λ (t : Tuple). t.issued) same)

root_timely : (rows : List Row) (ran : Ran) (g : Running rows ran) (a : Address) (k : Root rows ran a) → IsTimely ran.setup (length rows) k.tuple
root_timely rows ran g a k zero request e lt = absurd (cc)
root_timely rows ran g a k (suc r) request e lt =
    let (before, row, issued) = root_counts rows ran g a k in
    elim (cases_lt before (min request.after (length rows))) [
      | inl below ↦ omega (arith, row, below)
      | inr above ↦
          let n : suc r ≤ count_to before (length rows) (afters ran.setup.requests) = counted before (length rows) 0 r request ran.setup.requests g.order e above in
          absurd (omega (arith, issued, n, lt))
    ]

met_timely : (rows : List Row) (ran : Ran) (g : Running rows ran) (w l : ℕ) (t : Tuple) → HasWorker ran w → IsIn (entry.Met l t) (journal_of ran w) → IsTimely ran.setup (length rows) t
met_timely rows ran g w l t lt h r request e lr =
    let i = place_of_in (entry.Met l t) (journal_of ran w) h in
    let p : Rooted rows ran (record { worker = w; entry = i.0 }) = rooted rows ran g (record { worker = w; entry = i.0 }) t lt (l, i.1) in
    let a : Passed p.root.tuple t = passed ran p.at (record { worker = w; entry = i.0 }) p.chain p.root.tuple t p.down (p.root.n, p.root.met) (l, i.1) in
    let issued : t.issued ≡ p.root.tuple.issued = a.issued in
    let row : t.row ≡ p.root.tuple.row = a.row in
    let k : p.root.tuple.row ≤ min request.after (length rows) = root_timely rows ran g p.at p.root r request e (omega arith) in
    omega arith

-- a head's request is one of the setup
head_request : (setup : SetupView) → HasCovers setup → (r node : ℕ) → is_head setup r node ≡ true → (request : Request) × (request_at setup r ≡ Some request)
head_request setup kept zero node h = absurd (cc)
head_request setup kept (suc r) node h = go (slice_get setup.plans r) refl h
  where
    go : (o : Option Plan) → slice_get setup.plans r ≡ o → heads o node ≡ true → (request : Request) × (slice_get setup.requests r ≡ Some request)
    go None e h = absurd (cc)
    go (Some plan) e h = let lt = slice_get_within setup.plans r plan e in item_at setup.requests r (omega (arith, lt, kept.one_each))

up_to : (setup : SetupView) → HasCovers setup → (rows r node : ℕ) (t : Tuple) → is_head setup r node ≡ true → IsTimely setup rows t → t.issued < r → IsUpTo rows (request_at setup r) t.row
up_to setup kept rows r node t h timely lt = let (request, e) = head_request setup kept r node h in rw e (timely r request e lt)

fresh_along : (setup : SetupView) → HasCovers setup → (rows : ℕ) (who : Worker) (progress : Progress) (journal : List Entry) → IsExecution (duties setup 0 who) progress journal
    → ((l : ℕ) (t : Tuple) → IsIn (entry.Met l t) journal → IsTimely setup rows t) → AreFreshFrom setup rows who progress journal
fresh_along setup kept rows who progress [] f h = tt
fresh_along setup kept rows who progress (e ∷ journal) f h =
    (one e f.0 (λ l t p. h l t (inl p)), fresh_along setup kept rows who (after_entry progress e) journal f.1 (λ l t i. h l t (inr i)))
  where
    one : (e : Entry) → IsEnabled (duties setup 0 who) progress e → ((l : ℕ) (t : Tuple) → entry.Met l t ≡ e → IsTimely setup rows t) → IsFreshAt setup rows who progress e
    one (entry.Met l t) a h = under (next_due progress.dues) a.3
      where
        under : (o : Option ℕ) → IsInTime (duties setup 0 who) t o → IsFreshUnder setup rows who o t
        under None a = tt
        under (Some due) a = λ head. up_to setup kept rows due who.node t head (h l t refl) (a head)
    one (entry.Marked l r) a h = tt
    one (entry.Turned r) a h = tt
    one (entry.Ended l) a h = tt

fresh_worker : (rows : List Row) (ran : Ran) (g : Running rows ran) (w : ℕ) → HasWorker ran w
    → AreFreshFrom ran.setup (length rows) (worker_no ran.setup w) (start_of ran w) (journal_of ran w)
fresh_worker rows ran g w lt =
    fresh_along ran.setup g.kept (length rows) (worker_no ran.setup w) (start_of ran w) (journal_of ran w) (execution rows ran g w lt)
    (λ l t h. met_timely rows ran g w l t lt h)

pub is_fresh : (rows : List Row) (ran : Ran) (g : Running rows ran) → IsFresh (length rows) ran
is_fresh rows ran g w who journal p j =
    let lt : HasWorker ran w = slice_get_within (workers_in ran.setup.job) w who p in
    subst (λ (x : Worker). AreFreshFrom ran.setup (length rows) x (initial (duties ran.setup 0 x)) journal) (who_is ran.setup w who p)
    (subst (λ (x : List Entry). AreFreshFrom ran.setup (length rows) (worker_no ran.setup w) (start_of ran w) x) (journal_is ran w journal j)
    (fresh_worker rows ran g w lt))

-- ---- fresh before the turn

up_to_later : (setup : SetupView) (rows d r row : ℕ) → AreInOrder 0 setup.requests → d ≤ r → (request : Request) → request_at setup r ≡ Some request → IsUpTo rows (request_at setup d) row
    → row ≤ min request.after rows
up_to_later setup rows zero r row order le request e up = absurd up
up_to_later setup rows (suc d) zero row order le request e up = absurd (omega arith)
up_to_later setup rows (suc d) (suc r) row order le request e up = go (slice_get setup.requests d) refl up
  where
    go : (o : Option Request) → slice_get setup.requests d ≡ o → IsUpTo rows o row → row ≤ min request.after rows
    go None g up = absurd up
    go (Some earlier) g up = let k = order_rises 0 d r earlier request setup.requests order (omega arith) g e in omega (arith, k, up)

module _ (setup : SetupView) (kept : HasCovers setup) (order : AreInOrder 0 setup.requests) (rows : ℕ) (who : Worker) (r : ℕ) (head : is_head setup r who.node ≡ true)
    (before : IsHeadBefore setup r who)
  where
    head_too : (d : ℕ) → d ≤ r → covers setup d who.node ≡ true → is_head setup d who.node ≡ true
    head_too d le c =
        elim (cases_lt d r) [
          | inl lt ↦ before d lt c
          | inr ge ↦ let e : d ≡ r = omega arith in rw e head
        ]

    -- what a head meets while an earlier request is the next due is of an earlier row, too
    under : (t : Tuple) (k : ℕ) (dues : List ℕ) → IsRising k dues → ((q : ℕ) → IsIn q dues → covers setup q who.node ≡ true) → IsFreshUnder setup rows who (next_due dues) t → IsIn r dues
        → IsUpTo rows (request_at setup r) t.row
    under t k [] up c fresh i = absurd i
    under t k (d ∷ dues) up c fresh i =
        let le : d ≤ r = rising_from k d r dues up i in
        let (request, e) = head_request setup kept r who.node head in
        rw e (up_to_later setup rows d r t.row order le request e (fresh (head_too d le (c d (inl refl)))))

    later_covered : (dues : List ℕ) → ((q : ℕ) → IsIn q dues → covers setup q who.node ≡ true) → (q : ℕ) → IsIn q (later_dues dues) → covers setup q who.node ≡ true
    later_covered [] c q i = absurd i
    later_covered (d ∷ dues) c q i = c q (inr i)

    along : (progress : Progress) (k : ℕ) (journal : List Entry) (l : ℕ) (t : Tuple) → IsExecution (duties setup 0 who) progress journal → IsRising k progress.dues
        → ((q : ℕ) → IsIn q progress.dues → covers setup q who.node ≡ true) → AreFreshFrom setup rows who progress journal → Before (entry.Met l t) (entry.Turned r) journal
        → IsUpTo rows (request_at setup r) t.row
    along progress k [] l t f up c fresh b = absurd b
    along progress k (e ∷ journal) l t f up c fresh (inl h) = here e h.0 fresh.0 (turned_is_due (duties setup 0 who) progress (e ∷ journal) r f (inr h.1))
      where
        here : (e : Entry) → entry.Met l t ≡ e → IsFreshAt setup rows who progress e → IsIn r progress.dues → IsUpTo rows (request_at setup r) t.row
        here (entry.Met n u) p fr i = let q : t ≡ u = cc in under t k progress.dues up c (subst (λ (x : Tuple). IsFreshUnder setup rows who (next_due progress.dues) x) (sym q) fr) i
        here (entry.Marked n q) p fr i = absurd (cc)
        here (entry.Turned q) p fr i = absurd (cc)
        here (entry.Ended n) p fr i = absurd (cc)
    along progress k (e ∷ journal) l t f up c fresh (inr b) = along (after_entry progress e) (next_bound e) journal l t f.1 (next_rises e) (next_covered e) fresh.1 b
      where
        tail_bound : List ℕ → ℕ
        tail_bound [] = k
        tail_bound (d ∷ dues) = d

        next_bound : Entry → ℕ
        next_bound (entry.Met n u) = k
        next_bound (entry.Marked n q) = k
        next_bound (entry.Turned q) = tail_bound progress.dues
        next_bound (entry.Ended n) = k

        tail_rises : (dues : List ℕ) → IsRising k dues → IsRising (tail_bound dues) (later_dues dues)
        tail_rises [] i = tt
        tail_rises (d ∷ dues) i = i.1

        next_rises : (e : Entry) → IsRising (next_bound e) (after_entry progress e).dues
        next_rises (entry.Met n u) = up
        next_rises (entry.Marked n q) = up
        next_rises (entry.Turned q) = tail_rises progress.dues up
        next_rises (entry.Ended n) = up

        next_covered : (e : Entry) → (q : ℕ) → IsIn q (after_entry progress e).dues → covers setup q who.node ≡ true
        next_covered (entry.Met n u) = c
        next_covered (entry.Marked n q) = c
        next_covered (entry.Turned q) = later_covered progress.dues c
        next_covered (entry.Ended n) = c

-- what stands in the part before a turn stands before it
before_turn_before : (r : ℕ) (e : Entry) (journal : List Entry) → IsIn (entry.Turned r) journal → IsIn e (before_turn r journal) → Before e (entry.Turned r) journal
before_turn_before r e [] t i = absurd t
before_turn_before r e (x ∷ journal) t i = go (is_turn r x) refl i (before_turn_before r e journal)
  where
    go : (b : Bool) → is_turn r x ≡ b → IsIn e (cond b [] (x ∷ before_turn r journal)) → (IsIn (entry.Turned r) journal → IsIn e (before_turn r journal) → Before e (entry.Turned r) journal)
        → Before e (entry.Turned r) (x ∷ journal)
    go true p i f = absurd i
    go false p (inl q) f = inl (q, rest_has r x journal p t)
    go false p (inr j) f = inr (f (rest_has r x journal p t) j)

pub is_fresh_before : (rows : List Row) (ran : Ran) (g : Running rows ran) → IsFreshBefore (length rows) ran
is_fresh_before rows ran g w r who journal p j head before =
    let lt : HasWorker ran w = slice_get_within (workers_in ran.setup.job) w who p in
    let at : worker_no ran.setup w ≡ who = who_is ran.setup w who p in
    let there : journal_of ran w ≡ journal = journal_is ran w journal j in
    let law : IsExecution (duties ran.setup 0 who) (initial (duties ran.setup 0 who)) journal =
    subst (λ (x : Worker). IsExecution (duties ran.setup 0 x) (initial (duties ran.setup 0 x)) journal) at
    (subst (λ (x : List Entry). IsExecution (duties_of ran w) (start_of ran w) x) there (execution rows ran g w lt)) in
    let turned : IsIn (entry.Turned r) journal =
    subst (λ (x : List Entry). IsIn (entry.Turned r) x) there (covered_turns rows ran g w r lt (rw at (g.kept.heads r who.node head))) in
    all_of_at (λ (tuple : Tuple). IsUpTo (length rows) (request_at ran.setup r) tuple.row) (met_tuples (before_turn r journal))
    (λ t i.
    let m = in_filter_map met t (before_turn r journal) i in
    let l = met_is m.0 t m.2 in
    let e : IsIn (entry.Met l.0 t) (before_turn r journal) = subst (λ (x : Entry). IsIn x (before_turn r journal)) l.1 m.1 in
    along ran.setup g.kept g.order (length rows) who r head before (initial (duties ran.setup 0 who)) 0 journal l.0 t law
    (dues_rise ran.setup 0 who.node 0 (omega arith)) (λ q h. due_covers ran.setup 0 who.node q h) (is_fresh rows ran g w who journal p j)
    (before_turn_before r (entry.Met l.0 t) journal turned e))
