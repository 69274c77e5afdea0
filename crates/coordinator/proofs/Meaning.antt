-- What the law of the feeder says in the words of the feed.
use Rattle.std.proofs.Common.{◌≡◌, ◌⊎◌, ◌∙◌, ◌==◌, ◌↔◌, ◌+◌, ◌-◌, ◌<◌, ◌≤◌, ℕ, zero, suc, List, [], ◌∷◌, ◌++◌, inl, inr, refl, sym, ap, true, false, Bool, cond, nat_lt, arith, length, drop, min, None, Some, slice_get, append-nil}
use Rattle.std.specs.Prelude.{Contains, nat_le}
use Rattle.std.proofs.lemmas.Option.{slice_get_within}
use Rattle.flow_dag.specs.declared.graph.Graph.{Graph}
use Rattle.jobs.specs.JobView.{JobView}
use Rattle.sink_journal.specs.declared.journal.Feed.{Feed}
use Rattle.sink_journal.specs.declared.journal.Feed.TheVariants.{Fed, Issued, Stopped}
use Rattle.tuple_trace.specs.declared.row.Row.{Row}
use Rattle.tuple_trace.specs.declared.tuple.Item.TheVariants.{Last}
use Rattle.flow_model.specs.Begin.{Begin}
use Rattle.flow_model.specs.Feeding.{fed, feed_after, feed_from, issued_after, issued_at_first, issued_where}
use Rattle.flow_model.specs.Lanes.{lanes}
use Rattle.flow_model.specs.SetupView.{SetupView}
use Rattle.flow_model.specs.declared.topology.Lane.{Lane}
use Rattle.flow_model.specs.Requests.{afters}
use Rattle.flow_model.specs.Run.{Ran, put_by}
use Rattle.flow_model.proofs.ElementLemmas.{IsIn, contains_of_in, in_of_contains}
use Rattle.flow_model.proofs.WorkerLemmas.{item_at}
use Rattle.coordinator.specs.Views.{FeederIs}
use Rattle.lane_core.specs.Lane.{EndpointIs}
use Rattle.coordinator.specs.Feeding.{AreOuts, IsFeeder, IsFeeding, IsOut, fed_lanes}
use Rattle.coordinator.specs.Due.{IsDue, IsReleased}
use Rattle.coordinator.specs.Meaning.{HasSentAll, SendsTheFeed}
use Rattle.coordinator.proofs.Keeping.{an_end}
use Rattle.coordinator.proofs.Laying.{fed_by}
use Rattle.coordinator.proofs.Rests.{rest_issue}

-- ---- the end stands in a feed once

abbrev stops_in : List Feed → ℕ
stops_in [] = 0
stops_in (Fed k ∷ more) = stops_in more
stops_in (Issued r ∷ more) = stops_in more
stops_in (Stopped ∷ more) = suc (stops_in more)

stops_append : (xs ys : List Feed) → stops_in (xs ++ ys) ≡ stops_in xs + stops_in ys
stops_append [] ys = omega arith
stops_append (Fed k ∷ xs) ys = stops_append xs ys
stops_append (Issued r ∷ xs) ys = stops_append xs ys
stops_append (Stopped ∷ xs) ys = let h = stops_append xs ys in omega (arith, h)

none_stops : (test : ℕ → Bool) (rows r : ℕ) (xs : List ℕ) → stops_in (issued_where test rows r xs) ≡ 0
none_stops test rows r [] = refl
none_stops test rows r (a ∷ xs) = go (test (min a rows)) (none_stops test rows (r + 1) xs)
  where
    go : (b : Bool) → stops_in (issued_where test rows (r + 1) xs) ≡ 0 → stops_in (cond b (Issued r ∷ issued_where test rows (r + 1) xs) (issued_where test rows (r + 1) xs)) ≡ 0
    go true h = h
    go false h = h

one_stop : (xs : List ℕ) (r row rows left : ℕ) → stops_in (feed_after xs r row rows left) ≡ 1
one_stop xs r row rows zero = refl
one_stop xs r row rows (suc left) =
    stops_append (issued_after (row + 1) rows r xs) (feed_after xs r (row + 1) rows left)
    ∙ (let a = none_stops (λ after. after == row + 1) rows r xs in let b = one_stop xs r (row + 1) rows left in omega (arith, a, b))

feed_stops : (row issued : ℕ) (xs : List ℕ) (rows : ℕ) → stops_in (feed_from row issued xs rows) ≡ 1
feed_stops row issued xs rows =
    stops_append (issued_at_first row rows (issued + 1) (drop issued xs)) (feed_after (drop issued xs) (issued + 1) row rows (rows - row))
    ∙ (let a = none_first (drop issued xs) in let b = one_stop (drop issued xs) (issued + 1) row rows (rows - row) in omega (arith, a, b))
  where
    none_first : (ys : List ℕ) → stops_in (issued_at_first row rows (issued + 1) ys) ≡ 0
    none_first ys = none_stops (λ after. nat_le after row) rows (issued + 1) ys

stop_counts : (xs : List Feed) → IsIn Stopped xs → 0 < stops_in xs
stop_counts [] i = absurd i
stop_counts (Fed k ∷ xs) (inl e) = absurd (cc)
stop_counts (Fed k ∷ xs) (inr i) = stop_counts xs i
stop_counts (Issued r ∷ xs) (inl e) = absurd (cc)
stop_counts (Issued r ∷ xs) (inr i) = stop_counts xs i
stop_counts (Stopped ∷ xs) i = omega arith

stop_there : (xs : List Feed) → 0 < stops_in xs → IsIn Stopped xs
stop_there [] lt = absurd (omega (arith, lt))
stop_there (Fed k ∷ xs) lt = inr (stop_there xs lt)
stop_there (Issued r ∷ xs) lt = inr (stop_there xs lt)
stop_there (Stopped ∷ xs) lt = inl refl

pub recorded : (setup : SetupView) (begin : Begin) (xs : List ℕ) (rows : List Row) (f : FeederIs) → IsFeeding setup begin xs rows f → (f.stopped ≡ true) ↔ Contains f.feeds Stopped
recorded setup begin xs rows f law = (
  (λ s.
      let one = feed_stops begin.row begin.turned xs (length rows) in
      let some : 0 < stops_in f.feeds = omega (arith, one, ap stops_in (law.course.stopped s)) in
      contains_of_in Stopped f.feeds (stop_there f.feeds some)),
  (λ i. go f.stopped refl (stop_counts f.feeds (in_of_contains Stopped f.feeds i))),
)
  where
    go : (b : Bool) → f.stopped ≡ b → 0 < stops_in f.feeds → f.stopped ≡ true
    go true e lt = e
    go false e lt =
        let one = feed_stops begin.row begin.turned xs (length rows) in
        let rest = feed_stops f.row f.issued xs (length rows) in
        let all : stops_in (feed_from begin.row begin.turned xs (length rows)) ≡ stops_in f.feeds + stops_in (feed_from f.row f.issued xs (length rows)) =
        ap stops_in (law.course.going e) ∙ stops_append f.feeds (feed_from f.row f.issued xs (length rows)) in
        absurd (omega (arith, one, rest, all, lt))

-- ---- what the ends have sent

-- an endpoint, with its lane
at_place : {job : JobView} {turned : ℕ} {rows : List Row} {graph : Graph} {feeds : List Feed}
    {ended : ℕ} {outs : List EndpointIs} → AreOuts job turned rows graph feeds ended outs
    → (k : ℕ) (out : EndpointIs) → slice_get outs k ≡ Some out
    → (lane : Lane) × (slice_get (fed_lanes job) k ≡ Some lane)
    × IsOut job turned rows graph feeds ended k lane out
at_place {job = job} {outs = outs} are k out h =
    let lt = slice_get_within outs k out h in
    let there = item_at (fed_lanes job) k (omega (arith, lt, are.outs_are)) in
    (there.0, there.1, are.outs k there.0 out there.1 h)

pub sends : (setup : SetupView) (begin : Begin) (xs : List ℕ) (rows : List Row) (f : FeederIs) → IsFeeding setup begin xs rows f → SendsTheFeed setup begin rows f
sends setup begin xs rows f law k out h =
    let at = at_place law.lanes k out h in
    (at.0, at.2.endpoint.numbered, pick at.0 (nat_lt k f.ended) at.2.sent_is)
  where
    pick : (lane : Lane) (b : Bool) → out.items ≡ fed setup.job rows begin.turned lane f.feeds ++ cond b (Last ∷ []) []
        → (out.items ≡ fed setup.job rows begin.turned lane f.feeds) ⊎ (out.items ≡ fed setup.job rows begin.turned lane f.feeds ++ Last ∷ [])
    pick lane true e = inr e
    pick lane false e = inl (e ∙ append-nil (fed setup.job rows begin.turned lane f.feeds))

-- an endpoint after the stop
at_stop : (setup : SetupView) (begin : Begin) (xs : List ℕ) (rows : List Row) (f : FeederIs)
    → IsFeeding setup begin xs rows f → f.stopped ≡ true → (k : ℕ) (out : EndpointIs)
    → slice_get f.outs k ≡ Some out → (lane : Lane) × (lane.sender ≡ None)
    × (slice_get (lanes setup.job) out.number ≡ Some lane)
    × (out.items ≡ fed setup.job rows begin.turned lane f.feeds ++ Last ∷ [])
at_stop setup begin xs rows f law s k out h =
    let at = at_place law.lanes k out h in
    let within = slice_get_within f.outs k out h in
    let last = an_end k f.ended (omega (arith, within, law.ended.all_ended s)) in (
      at.0,
      fed_by setup.job k at.0 at.1,
      at.2.endpoint.numbered,
      at.2.sent_is ∙ ap (λ l. fed setup.job rows begin.turned at.0 f.feeds ++ l) last,
    )

pub sent_all : (setup : SetupView) (begin : Begin) (xs : List ℕ) (rows : List Row) (f : FeederIs) → IsFeeding setup begin xs rows f → f.stopped ≡ true → HasSentAll setup begin rows f
sent_all setup begin xs rows f law s k out h =
    let at = at_stop setup begin xs rows f law s k out h in (at.0, at.2, at.3)

pub puts : (setup : SetupView) (begin : Begin) (xs : List ℕ) (rows : List Row) (f : FeederIs) (ran : Ran) → IsFeeding setup begin xs rows f → f.stopped ≡ true → ran.setup ≡ setup → ran.feeds ≡ f.feeds
    → (k : ℕ) (out : EndpointIs) → slice_get f.outs k ≡ Some out → (lane : Lane) × (slice_get (lanes setup.job) out.number ≡ Some lane) × (put_by begin rows ran lane lane.sender ≡ Some out.items)
puts setup begin xs rows f ran law s e fs k out h =
    let (lane, none, numbered, sent) = at_stop setup begin xs rows f law s k out h in (
      lane,
      numbered,
      ap (put_by begin rows ran lane) none
          ∙ (ap (λ (t : SetupView). Some (fed t.job rows begin.turned lane ran.feeds ++ Last ∷ [])) e
          ∙ (ap (λ l. Some (fed setup.job rows begin.turned lane l ++ Last ∷ [])) fs
          ∙ ap Some (sym sent))),
    )

-- a request that is due comes next
pub next : (setup : SetupView) (begin : Begin) (rows : List Row) (f : FeederIs) → IsFeeder false setup begin rows f → f.stopped ≡ false → IsDue false setup rows f.loads f
    → (more : List Feed) × (feed_from begin.row begin.turned (afters setup.requests) (length rows) ≡ f.feeds ++ Issued (suc f.issued) ∷ more)
next setup begin rows f law s (after, at, due) = (
  feed_from f.row (suc f.issued) (afters setup.requests) (length rows),
  law.feeding.course.going s
      ∙ ap (λ l. f.feeds ++ l)
      (rest_issue (afters setup.requests) (length rows) f.row f.issued after at (reached due)),
)
  where
    reached : (IsReleased false f.loads (suc f.issued) × (min after (length rows) ≤ f.row)) ⊎ (length rows ≤ f.row) → min after (length rows) ≤ f.row
    reached (inl h) = h.1
    reached (inr le) = omega (arith, le)
