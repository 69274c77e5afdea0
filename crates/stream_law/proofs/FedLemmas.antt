-- In a run from a beginning on each tuple that is met is of a row that the run fed.
use Rattle.std.proofs.Common.{◌≡◌, ◌∙◌, ◌<◌, ◌≤◌, ◌+◌, ◌++◌, ℕ, List, [], ◌∷◌, ◌⊎◌, inl}
use Rattle.std.proofs.Common.{inr, refl, sym, subst, ap, arith, false, length, Some, None, Option}
use Rattle.jobs.specs.JobView.{JobView}
use Rattle.sink_journal.specs.declared.journal.Entry.TheVariants as entry
use Rattle.sink_journal.specs.declared.journal.Feed.{Feed}
use Rattle.sink_journal.specs.declared.journal.Feed.TheVariants as feed
use Rattle.tuple_trace.specs.Rows.{AreRows}
use Rattle.tuple_trace.specs.declared.row.Row.{Row}
use Rattle.tuple_trace.specs.declared.tuple.Item.TheVariants as item
use Rattle.tuple_trace.specs.declared.tuple.Tuple.{Tuple}
use Rattle.flow_model.specs.Begin.{Begin}
use Rattle.flow_model.specs.Feeding.{fed_put, fed_puts, fed_tuple, row_numbered}
use Rattle.flow_model.specs.Replay.{Put}
use Rattle.flow_model.specs.Requests.{afters}
use Rattle.flow_model.specs.Run.{Ran}
use Rattle.flow_model.specs.Whole.{meets_row}
use Rattle.flow_model.proofs.ElementLemmas.{IsIn, in_of_place, place_of_in}
use Rattle.flow_model.proofs.LineageLemmas.{Passed}
use Rattle.flow_model.proofs.RootLemmas.{FeedsRise, feed_rises}
use Rattle.flow_model.proofs.RunLemmas.{HasWorker, row_is, row_numbered-within}
use Rattle.flow_model.proofs.WorkerLemmas.{journal_of}
use Rattle.flow_laws.proofs.LineageLemmas.{passed}
use Rattle.flow_laws.proofs.RootLemmas.{Rooted, rooted}
use Rattle.flow_laws.proofs.RunLemmas.{RunningFrom}
use Rattle.stream_law.proofs.MeetLemmas.{none_met}

-- ---- what is fed

-- each put of a rising feed carries a tuple of a row above the bound, and of one that there is
puts_within : (job : JobView) (rows : List Row) (k issued : ℕ) (feeds : List Feed) (p : Put)
    (t : Tuple) → AreRows rows → FeedsRise k feeds
    → IsIn p (fed_puts job rows issued feeds) → p.item ≡ item.Carry t → (k < t.row)
    × (t.row ≤ length rows)
puts_within job rows k issued [] p t are f h e = absurd h
puts_within job rows k issued (feed.Fed n ∷ more) p t are f h e =
    go (row_numbered rows n) refl h
    (λ i. let both = puts_within job rows n issued more p t are f.1 i e in let lt = f.0 in
    (omega (arith, both.0, lt), both.1))
  where
    go : (o : Option Row) → row_numbered rows n ≡ o
        → IsIn p (fed_put job issued o ++ fed_puts job rows issued more)
        → (IsIn p (fed_puts job rows issued more) → (k < t.row) × (t.row ≤ length rows))
        → (k < t.row) × (t.row ≤ length rows)
    go None g i later = later i
    go (Some row) g (inl q) later =
        let c : item.Carry (fed_tuple issued row) ≡ item.Carry t = sym (ap (λ (p : Put). p.item) q)
        ∙ e in
        let same : fed_tuple issued row ≡ t = cc in
        let number : t.row ≡ n = sym (ap (λ (t : Tuple). t.row) same)
        ∙ (row_is rows n row are g).numbered in
        let lt = f.0 in
        let within = row_numbered-within rows n row g in
        (omega (arith, number, lt), omega (arith, number, within))
    go (Some row) g (inr i) later = later i
puts_within job rows k issued (feed.Issued r ∷ more) p t are f h e =
    puts_within job rows k (issued + 1) more p t are f h e
puts_within job rows k issued (feed.Stopped ∷ more) p t are f h e =
    puts_within job rows k issued more p t are f h e

-- ---- what is met

-- a tuple that is met is of a row that the run fed: one after the beginning's row
pub met_fed : (begin : Begin) (rows : List Row) (ran : Ran) (g : RunningFrom begin rows ran)
    (w l : ℕ) (t : Tuple) → HasWorker ran w → IsIn (entry.Met l t) (journal_of ran w)
    → (begin.row < t.row) × (t.row ≤ length rows)
met_fed begin rows ran g w l t lt h =
    let i = place_of_in (entry.Met l t) (journal_of ran w) h in
    let p : Rooted begin rows ran (record { worker = w; entry = i.0 }) =
    rooted begin rows ran g (record { worker = w; entry = i.0 }) t lt (l, i.1) in
    let a : Passed p.root.tuple t =
    passed begin ran p.at (record { worker = w; entry = i.0 }) p.chain p.root.tuple t p.down
    (p.root.n, p.root.met) (l, i.1) in
    let row : t.row ≡ p.root.tuple.row = a.row in
    let rise : FeedsRise begin.row ran.feeds =
    subst (FeedsRise begin.row) (sym g.run.feed)
    (feed_rises begin.row begin.turned (afters ran.setup.requests) (length rows)) in
    let both : (begin.row < p.root.tuple.row) × (p.root.tuple.row ≤ length rows) =
    puts_within ran.setup.job rows begin.row begin.turned ran.feeds p.root.put p.root.tuple
    g.rows_are rise
    (in_of_place p.root.put (fed_puts ran.setup.job rows begin.turned ran.feeds) p.root.k
    p.root.put_is) (sym p.root.carries) in
    (omega (arith, row, both.0), omega (arith, row, both.1))

-- no worker meets a row that was fed before the beginning, or one that there isn't
pub unfed_unmet : (begin : Begin) (rows : List Row) (ran : Ran) (g : RunningFrom begin rows ran)
    (w row : ℕ) → HasWorker ran w → (row ≤ begin.row) ⊎ (length rows < row)
    → meets_row row (journal_of ran w) ≡ false
unfed_unmet begin rows ran g w row lt out =
    none_met row (journal_of ran w) (λ l t i e. apart out t e (met_fed begin rows ran g w l t lt i))
  where
    apart : (row ≤ begin.row) ⊎ (length rows < row) → (t : Tuple) → t.row ≡ row
        → (begin.row < t.row) × (t.row ≤ length rows) → ⊥
    apart (inl le) t e both = absurd (omega (arith, le, e, both.0))
    apart (inr gt) t e both = absurd (omega (arith, gt, e, both.1))
