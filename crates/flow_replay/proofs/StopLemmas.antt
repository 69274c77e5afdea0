-- The end of a run.
use Rattle.std.proofs.Common.{◌≡◌, ◌<◌, ℕ, List, [], ◌∷◌, ◌++◌, length, map, Option, Some, None, refl, sym, ap, subst, ◌∙◌, arith}
use Rattle.std.specs.Prelude.{option_map, slice_get}
use Rattle.std.specs.FinMap.{empty}
use Rattle.std.proofs.lemmas.List.{append-nil, length-map}
use Rattle.std.proofs.lemmas.Option.{get_or_from_slice_get, slice_get-get_or, slice_get-map, slice_get_within}
use Rattle.keyed_state.specs.Counts.{Counts}
use Rattle.sink_journal.specs.declared.journal.Entry.{Entry}
use Rattle.sink_journal.specs.declared.journal.Feed.{Feed}
use Rattle.sink_journal.specs.declared.journal.Feed.TheVariants as feed
use Rattle.tuple_trace.specs.declared.row.Row.{Row}
use Rattle.tuple_trace.specs.declared.tuple.Item.{Item}
use Rattle.tuple_trace.specs.declared.tuple.Item.TheVariants as item
use Rattle.flow_model.specs.Begin.{at_first}
use Rattle.flow_model.specs.Feeding.{fed_puts, feed_from}
use Rattle.flow_model.specs.Lanes.{lanes}
use Rattle.flow_model.specs.Law.{IsFinished, Progress, initial, progress_after}
use Rattle.flow_model.specs.declared.topology.Lane.{Lane}
use Rattle.flow_model.specs.SetupView.{SetupView, Worker}
use Rattle.flow_model.specs.Replay.{StateView, Put, after_all, items_on, shown}
use Rattle.flow_model.specs.Requests.{afters}
use Rattle.flow_model.specs.Run.{IsRun, IsWorked, put_by, sent_by as sent_from}
use Rattle.flow_model.specs.Duties.{duties}
use Rattle.flow_model.specs.Workers.{nobody, nth_worker, workers_in}
use Rattle.flow_model.proofs.EndLemmas.{ended_counts}
use Rattle.flow_model.proofs.JournalLemmas.{after_all-append}
use Rattle.flow_model.proofs.PlaceLemmas.{map_place}
use Rattle.flow_replay.specs.declared.worker_run.WorkerRun.{WorkerRun}
use Rattle.flow_replay.specs.inner.Runs.{AllGain, AreOpen, empty_run, end_block, first_view, journal_at, put_so_far, run_at}
use Rattle.flow_replay.specs.inner.SoFar.{IsSoFar, count_issued, left_by}
use Rattle.flow_model.proofs.CoverLemmas.{AreCovering}
use Rattle.flow_replay.proofs.FollowLemmas.{finishes}
use Rattle.flow_model.proofs.LaneNumbers.{receiver_below}
use Rattle.flow_model.proofs.WorkerPlaces.{get-nth_worker, nth_worker-get, worker_at}
use Rattle.flow_replay.proofs.ConservationLemmas.{sent_by}
use Rattle.flow_replay.proofs.TurnLemmas.{IsSending, is_sending, sent_ended, shown_ended}
use Rattle.flow_replay.proofs.RunLemmas.{fed_puts-append}

pub at_run : {A : Type 0} (f : WorkerRun → A) (runs : List WorkerRun) (w : ℕ) (x : A) →
    slice_get (map f runs) w ≡ Some x → f (run_at runs w) ≡ x
at_run f runs w x e = let r = map_place f runs w x e in ap f (get_or_from_slice_get runs w r.0
    empty_run r.1) ∙ sym r.2

get_run : {A : Type 0} (f : WorkerRun → A) (runs : List WorkerRun) (w : ℕ) → w < length runs →
    slice_get (map f runs) w ≡ Some (f (run_at runs w))
get_run f runs w lt = slice_get-map f runs w ∙ ap (option_map f) (slice_get-get_or runs w empty_run
    lt)

-- no lane has ended by the replay where none has by the law
unended : (setup : SetupView) (w : ℕ) (rows : List Row) (feeds : List Feed) (m : ℕ) (runs : List
    WorkerRun) → w < length runs → IsSoFar setup rows feeds m runs
    → (after_all setup (nth_worker setup.job w) (first_view setup (nth_worker setup.job w)) (journal_at
    runs w)).ended ≡ 0
unended setup w rows feeds m runs b far =
    let who : Worker = nth_worker setup.job w in
    let start : Progress = initial (duties setup 0 who) in
    let same = ended_counts setup who (first_view setup who) start (journal_at runs w) in
    let none : length (progress_after start (journal_at runs w)).ended
    ≡ 0 = ap (λ (p : Progress). length p.ended) (far.quiescent.waits w b) in
    omega (arith, same, none)

pub are_open : (setup : SetupView) (rows : List Row) (feeds : List Feed) (m : ℕ) (runs : List
    WorkerRun) → IsSoFar setup rows feeds m runs → AreOpen runs
are_open setup rows feeds m runs far w b = ap (λ (x : StateView). x.ended) (far.quiescent.in_force w b)
    ∙ unended setup w rows feeds m runs b far

abbrev starts : List Worker → List Counts
starts ps = map (λ (who : Worker). empty) ps

at_start : (ps : List Worker) (w : ℕ) (counts : Counts) → slice_get (starts ps) w ≡ Some counts →
    empty ≡ counts
at_start ps w counts e = sym (map_place (λ (who : Worker). empty) ps w counts e).2

get_start : (ps : List Worker) (w : ℕ) → w < length ps → slice_get (starts ps) w ≡ Some empty
get_start ps w lt = slice_get-map (λ (who : Worker). empty) ps w
    ∙ ap (option_map (λ (who : Worker). empty)) (slice_get-get_or ps w nobody lt)

pub stop_step : (setup : SetupView) (rows : List Row) (feeds : List Feed) (old new : List WorkerRun) →
    AreCovering setup → IsSoFar setup rows feeds (length setup.plans) old
    → AllGain setup (end_block setup.job) old new → feeds ++ feed.Stopped ∷ []
    ≡ feed_from 0 0 (afters setup.requests) (length rows) →
    IsRun setup rows (left_by setup (feeds ++ feed.Stopped ∷ []) new)
stop_step setup rows feeds old new covering far gain fed_is = record {
  setup_is = refl;
  run = record {
    feed = fed_is;
    one_start_each = length-map (workers_in setup.job) (λ (who : Worker). empty);
    one_journal_each = length-map new (λ (run : WorkerRun). run.journal) ∙ (gain.long
        ∙ far.quiescent.long);
    one_state_each = length-map new (λ (run : WorkerRun). run.state.counts) ∙ (gain.long
        ∙ far.quiescent.long);
    worked = λ w who counts journal state ep ec ej es. worked w who counts journal state ep ec ej
        es;
    conserved = λ n l journal g ej. tie n l journal g ej l.sender refl;
  };
}
  where
    below : (w : ℕ) → w < length (workers_in setup.job) → w < length old
    below w b = let l = far.quiescent.long in omega (arith, b, l)

    ended : (w : ℕ) → w < length (workers_in setup.job) → journal_at new w
        ≡ journal_at old w ++ end_block setup.job w
    ended w b = (gain.each w (below w b)).journal

    counted : (w : ℕ) → w < length (workers_in setup.job) → (run_at new w).state.counts
        ≡ (after_all setup (nth_worker setup.job w) (first_view setup (nth_worker setup.job w))
        (journal_at new w)).counts
    counted w b =
        ap (λ (x : StateView). x.counts)
        ((gain.each w (below w b)).view
        ∙ (ap (λ (x : StateView). after_all setup (nth_worker setup.job w) x (end_block setup.job w))
        (far.quiescent.in_force w (below w b))
        ∙ (sym (after_all-append setup (nth_worker setup.job w) (first_view setup (nth_worker setup.job
        w)) (journal_at old w) (end_block setup.job w))
        ∙ ap (after_all setup (nth_worker setup.job w) (first_view setup (nth_worker setup.job w))) (sym
        (ended w b)))))

    done : (w : ℕ) → w < length (workers_in setup.job) →
        IsWorked setup (at_first setup) (nth_worker setup.job w) empty (journal_at new w) (run_at new
        w).state.counts
    done w b = record {
      finished = subst (IsFinished (duties setup 0 (nth_worker setup.job w))) (sym (ended w b))
          (finishes setup w (journal_at old w) (worker_at setup.job w b).0 (far.quiescent.lawful w
          (below w b)) (far.quiescent.waits w (below w b)));
      state_is = counted w b;
    }

    worked : (w : ℕ) (who : Worker) (counts : Counts) (journal : List Entry) (state : Counts) →
        slice_get (workers_in setup.job) w ≡ Some who → slice_get (at_first setup).states w
        ≡ Some counts
        → slice_get (map (λ (run : WorkerRun). run.journal) new) w ≡ Some journal →
        slice_get (map (λ (run : WorkerRun). run.state.counts) new) w ≡ Some state →
        IsWorked setup (at_first setup) who counts journal state
    worked w who counts journal state ep ec ej es =
        subst (λ (p : Worker). IsWorked setup (at_first setup) p counts journal state) (nth_worker-get
        setup.job w who ep)
        (subst (λ (c : Counts). IsWorked setup (at_first setup) (nth_worker setup.job w) c journal
        state) (at_start (workers_in setup.job) w counts ec)
        (subst (λ (j : List Entry). IsWorked setup (at_first setup) (nth_worker setup.job w) empty j
        state) (at_run (λ (run : WorkerRun). run.journal) new w journal ej)
        (subst (λ (s : Counts). IsWorked setup (at_first setup) (nth_worker setup.job w) empty
        (journal_at new w) s) (at_run (λ (run : WorkerRun). run.state.counts) new w state es)
        (done w (slice_get_within (workers_in setup.job) w who ep)))))

    fed_all : fed_puts setup.job rows 0 (feeds ++ feed.Stopped ∷ [])
        ≡ fed_puts setup.job rows 0 feeds
    fed_all = fed_puts-append setup.job rows 0 (count_issued feeds) feeds (feed.Stopped ∷ []) (omega
        arith) ∙ append-nil (fed_puts setup.job rows 0 feeds)

    tie : (n : ℕ) (l : Lane) (journal : List Entry) → slice_get (lanes setup.job) n ≡ Some l →
        slice_get (map (λ (run : WorkerRun). run.journal) new) l.receiver ≡ Some journal →
        (o : Option ℕ) → l.sender ≡ o
        → put_by (at_first setup) rows (left_by setup (feeds ++ feed.Stopped ∷ []) new) l o
        ≡ Some (shown setup n journal)
    tie n l journal g ej None e =
        ap Some (ap (λ (ps : List Put). items_on l ps ++ item.Last ∷ []) fed_all
        ∙ (ap (λ (xs : List Item). xs ++ item.Last ∷ []) was
        ∙ (sym (shown_ended setup n l (journal_at old l.receiver) (journal_at new l.receiver) g
        (ended l.receiver (receiver_below setup.job n l g)))
        ∙ ap (shown setup n) (at_run (λ (run : WorkerRun). run.journal) new l.receiver journal
        ej))))
      where
        was : items_on l (fed_puts setup.job rows 0 feeds)
            ≡ shown setup n (journal_at old l.receiver)
        was = ap (put_so_far setup (fed_puts setup.job rows 0 feeds) old l) (sym e)
            ∙ (far.quiescent.conserved n l g ∙ append-nil (shown setup n (journal_at old
            l.receiver)))
    tie n l journal g ej (Some s) e =
        ap (λ (o : Option Worker). sent_from setup (at_first setup) l o (slice_get (at_first
        setup).states s) (slice_get (map (λ (run : WorkerRun). run.journal) new) s))
        (get-nth_worker setup.job s by.below)
        ∙ (ap (λ (o : Option Counts). sent_from setup (at_first setup) l (Some (nth_worker setup.job
        s)) o (slice_get (map (λ (run : WorkerRun). run.journal) new) s)) (get_start (workers_in
        setup.job) s by.below)
        ∙ (ap (λ (o : Option (List Entry)). sent_from setup (at_first setup) l (Some (nth_worker
        setup.job s)) (Some empty) o) (get_run (λ (run : WorkerRun). run.journal) new s (let b =
        below s by.below in let q = gain.long in omega (arith, b, q)))
        ∙ ap Some (sent_ended setup n l s (journal_at old s) (journal_at new s) covering g e
        zero_ended (ended s by.below)
        ∙ (ap (λ (xs : List Item). xs ++ item.Last ∷ []) was
        ∙ (sym (shown_ended setup n l (journal_at old l.receiver) (journal_at new l.receiver) g
        (ended l.receiver (receiver_below setup.job n l g)))
        ∙ ap (shown setup n) (at_run (λ (run : WorkerRun). run.journal) new l.receiver journal
        ej))))))
      where
        by : IsSending setup.job l s
        by = is_sending setup.job n l s g e

        was : sent_by setup l s (journal_at old s) ≡ shown setup n (journal_at old l.receiver)
        was = ap (put_so_far setup (fed_puts setup.job rows 0 feeds) old l) (sym e)
            ∙ (far.quiescent.conserved n l g ∙ append-nil (shown setup n (journal_at old
            l.receiver)))

        zero_ended : (after_all setup (nth_worker setup.job s) (first_view setup (nth_worker setup.job s))
            (journal_at old s)).ended ≡ 0
        zero_ended = unended setup s rows feeds (length setup.plans) old (below s by.below) far
