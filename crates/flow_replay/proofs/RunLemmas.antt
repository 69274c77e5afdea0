-- The steps of a run: a request is issued, and a row is fed.
use Rattle.std.proofs.Common.{◌≡◌, ◌<◌, ◌+◌, ℕ, suc, List, [], ◌∷◌, ◌++◌, Bool, true, false, cond, length, Option, Some, None, refl, sym, ap, subst, ◌∙◌, arith, append_assoc}
use Rattle.std.specs.Prelude.{slice_get}
use Rattle.std.specs.List.{cons_option}
use Rattle.std.proofs.lemmas.List.{append-nil}
use Rattle.std.proofs.lemmas.List.Elements.{filter_map-append}
use Rattle.std.proofs.lemmas.Option.{same_Some}
use Rattle.jobs.specs.JobView.{JobView}
use Rattle.sink_journal.specs.declared.journal.Entry.{Entry}
use Rattle.sink_journal.specs.declared.journal.Feed.{Feed}
use Rattle.sink_journal.specs.declared.journal.Feed.TheVariants as feed
use Rattle.tuple_trace.specs.declared.row.Row.{Row}
use Rattle.tuple_trace.specs.declared.tuple.Item.{Item}
use Rattle.tuple_trace.specs.declared.tuple.Item.TheVariants as item
use Rattle.flow_model.specs.Feeding.{fed_put, fed_puts, fed_tuple, row_numbered}
use Rattle.flow_model.specs.Lanes.{is_same_lane, lane_at, lane_of, lanes}
use Rattle.flow_model.specs.Law.{IsExecution, Progress, Duties, initial, progress_after}
use Rattle.flow_model.specs.declared.topology.Lane.{Lane}
use Rattle.flow_model.specs.SetupView.{SetupView}
use Rattle.flow_model.specs.Replay.{StateView, Put, after_all, item_on, items_on, shown}
use Rattle.flow_model.specs.Duties.{duties}
use Rattle.flow_model.specs.Workers.{nth_worker, workers_in}
use Rattle.flow_model.proofs.JournalLemmas.{IsExecution-append, after_all-append, progress_after-append}
use Rattle.flow_model.proofs.LaneLemmas.{same_lane}
use Rattle.flow_replay.specs.declared.worker_run.WorkerRun.{WorkerRun}
use Rattle.flow_replay.specs.inner.Runs.{AllGain, AreInForce, IsConserved, first_view, journal_at, nothing, put_so_far, run_view, turn_block, with_item}
use Rattle.flow_replay.specs.inner.SoFar.{AreEmpty, IsSoFar, count_issued, waiting}
use Rattle.flow_replay.specs.inner.Delivery.{IsFed}
use Rattle.flow_model.proofs.CoverLemmas.{AreCovering}
use Rattle.flow_replay.proofs.FollowLemmas.{meetings-follow, turn-follows}
use Rattle.flow_model.proofs.LaneNumbers.{is_lane_of, receiver_below}
use Rattle.flow_model.proofs.WorkerPlaces.{worker_at}
use Rattle.flow_replay.proofs.ConservationLemmas.{sent_by}
use Rattle.flow_replay.proofs.TurnLemmas.{is_sending, turns_conserve}

-- ---- what was fed

pub fed_puts-append : (job : JobView) (rows : List Row) (i j : ℕ) (xs ys : List Feed) → j
    ≡ i + count_issued xs → fed_puts job rows i (xs ++ ys)
    ≡ fed_puts job rows i xs ++ fed_puts job rows j ys
fed_puts-append job rows i j [] ys e = let s : i ≡ j = omega (arith, e) in ap (λ (x : ℕ). fed_puts
    job rows x ys) s
fed_puts-append job rows i j (feed.Fed k ∷ xs) ys e =
    ap (λ (ps : List Put). fed_put job i (row_numbered rows k) ++ ps) (fed_puts-append job rows i j xs ys
    e)
    ∙ sym (append_assoc (fed_put job i (row_numbered rows k)) (fed_puts job rows i xs) (fed_puts job rows
    j ys))
fed_puts-append job rows i j (feed.Issued r ∷ xs) ys e = fed_puts-append job rows (i + 1) j xs ys
    (omega (arith, e))
fed_puts-append job rows i j (feed.Stopped ∷ xs) ys e = fed_puts-append job rows i j xs ys e

count-append : (xs ys : List Feed) → count_issued (xs ++ ys) ≡ count_issued xs + count_issued ys
count-append [] ys = omega arith
count-append (feed.Fed k ∷ xs) ys = count-append xs ys
count-append (feed.Issued r ∷ xs) ys = let h = count-append xs ys in omega (arith, h)
count-append (feed.Stopped ∷ xs) ys = count-append xs ys

-- ---- the law, where journals gain

law_gains : (at : Duties) (s : Progress) (old more new : List Entry) → new ≡ old ++ more →
    IsExecution at (initial at) old → progress_after (initial at) old ≡ s → IsExecution at s more
    → IsExecution at (initial at) new × (progress_after (initial at) new ≡ progress_after s more)
law_gains at s old more new e f is g = (
  subst (IsExecution at (initial at)) (sym e) ((IsExecution-append at (initial at) old more).1 (
    f,
    subst (λ (x : Progress). IsExecution at x more) (sym is) g,
  )),
  ap (progress_after (initial at)) e ∙ (progress_after-append (initial at) old more
      ∙ ap (λ (x : Progress). progress_after x more) is),
)

-- ---- a request is issued

pub issue_step : (setup : SetupView) (rows : List Row) (feeds : List Feed) (m : ℕ) (old new : List
    WorkerRun) → AreCovering setup → m < length setup.plans → IsSoFar setup rows feeds m old
    → AllGain setup (turn_block setup (m + 1)) old new →
    IsSoFar setup rows (feeds ++ feed.Issued (m + 1) ∷ []) (m + 1) new
issue_step setup rows feeds m old new covering h far gain = record {
  counted = let c = count-append feeds (feed.Issued (m + 1) ∷ []) in let d = far.counted in omega
      (arith, c, d);
  quiescent = record {
    long = gain.long ∙ far.quiescent.long;
    in_force = forces;
    conserved = subst (λ (ps : List Put). IsConserved setup ps new nothing) (sym same)
        (turns_conserve setup (fed_puts setup.job rows 0 feeds) (m + 1) old new covering
        far.quiescent.long gain far.quiescent.conserved);
    lawful = λ w b. (law w (omega (arith, b, gain.long))).0;
    waits = λ w b. (law w (omega (arith, b, gain.long))).1
        ∙ (turn-follows setup w m (worker_at setup.job w (omega (
          arith,
          b,
          gain.long,
          far.quiescent.long,
        ))).0 h).1;
  };
}
  where
    same : fed_puts setup.job rows 0 (feeds ++ feed.Issued (m + 1) ∷ [])
        ≡ fed_puts setup.job rows 0 feeds
    same = fed_puts-append setup.job rows 0 (count_issued feeds) feeds (feed.Issued (m + 1) ∷ [])
        (omega arith) ∙ append-nil (fed_puts setup.job rows 0 feeds)

    forces : AreInForce setup new
    forces w b =
        let c : w < length old = omega (arith, b, gain.long) in
        (gain.each w c).view ∙ (ap (λ (x : StateView). after_all setup (nth_worker setup.job w) x
        (turn_block setup (m + 1) w)) (far.quiescent.in_force w c)
        ∙ (sym (after_all-append setup (nth_worker setup.job w) (first_view setup (nth_worker setup.job
        w)) (journal_at old w) (turn_block setup (m + 1) w))
        ∙ ap (after_all setup (nth_worker setup.job w) (first_view setup (nth_worker setup.job w))) (sym
        (gain.each w c).journal)))

    law : (w : ℕ) → w < length old → IsExecution (duties setup 0 (nth_worker setup.job w)) (initial
        (duties setup 0 (nth_worker setup.job w))) (journal_at new w)
        × (progress_after (initial (duties setup 0 (nth_worker setup.job w))) (journal_at new w)
        ≡ progress_after (waiting setup (nth_worker setup.job w) m) (turn_block setup (m + 1) w))
    law w c =
        law_gains (duties setup 0 (nth_worker setup.job w)) (waiting setup (nth_worker setup.job w) m)
        (journal_at old w) (turn_block setup (m + 1) w) (journal_at new w) (gain.each w
        c).journal
        (far.quiescent.lawful w c) (far.quiescent.waits w c) (turn-follows setup w m (worker_at
        setup.job w (omega (arith, c, far.quiescent.long))).0 h).0

-- ---- a row is fed

-- the row is on its lane
row_conserved : (setup : SetupView) (fed : List Put) (found : Option Lane) (at : Lane) (x : Item) (old
    : List WorkerRun) → found ≡ Some at → at.sender ≡ None → IsConserved setup fed old nothing
    → IsConserved setup (fed ++ record { lane = found; item = x } ∷ []) old (with_item at x nothing)
row_conserved setup fed found at x old is source conserved n l g = go l.sender refl (conserved n l g
    ∙ append-nil (shown setup n (journal_at old l.receiver)))
  where
    go : (o : Option ℕ) → l.sender ≡ o → put_so_far setup fed old l o
        ≡ shown setup n (journal_at old l.receiver)
        → put_so_far setup (fed ++ record { lane = found; item = x } ∷ []) old l o
        ≡ shown setup n (journal_at old l.receiver) ++ cond (is_same_lane (Some at) l) (x ∷ []) []
    go None e was =
        filter_map-append (item_on l) fed (record { lane = found; item = x } ∷ [])
        ∙ (ap (λ (o : Option Lane). items_on l fed ++ cons_option (cond (is_same_lane o l) (Some x)
        None) []) is
        ∙ (ap (λ (xs : List Item). items_on l fed ++ xs) (one (is_same_lane (Some at) l))
        ∙ ap (λ (xs : List Item). xs ++ cond (is_same_lane (Some at) l) (x ∷ []) []) was))
      where
        one : (b : Bool) → cons_option (cond b (Some x) None) [] ≡ cond b (x ∷ []) []
        one true = refl
        one false = refl
    go (Some s) e was = by_lane (is_same_lane (Some at) l) refl
      where
        by_lane : (b : Bool) → is_same_lane (Some at) l ≡ b →
            put_so_far setup fed old l (Some s) ≡ shown setup n (journal_at old l.receiver) ++ cond
            b (x ∷ []) []
        by_lane true t = absurd (let same = same_Some at l (same_lane (Some at) l t) in let q : Some
            s ≡ None = sym e ∙ (ap (λ (y : Lane). y.sender) (sym same) ∙ source) in cc)
        by_lane false t = was ∙ sym (append-nil (shown setup n (journal_at old l.receiver)))

pub feed_step : (setup : SetupView) (rank : ℕ → ℕ) (rows : List Row) (feeds : List Feed) (m k : ℕ)
    (row : Row) (old new : List WorkerRun) → slice_get rows k ≡ Some row → row.tuple.row ≡ k + 1
    → IsSoFar setup rows feeds m old → IsFed setup rank row m old new →
    IsSoFar setup rows (feeds ++ feed.Fed row.tuple.row ∷ []) m new
feed_step setup rank rows feeds m k row old new there number far fed = record {
  counted = let c = count-append feeds (feed.Fed row.tuple.row ∷ []) in let d = far.counted in omega
      (arith, c, d);
  quiescent = record {
    long = fed.delivered.long ∙ far.quiescent.long;
    in_force = fed.delivered.in_force far.quiescent.in_force;
    conserved = subst (λ (ps : List Put). IsConserved setup ps new nothing) (sym puts_are)
        (fed.delivered.conserved far.quiescent.in_force (fed_puts setup.job rows 0 feeds ++ put ∷
        []) nothing (λ i l h r. refl)
        (row_conserved setup (fed_puts setup.job rows 0 feeds) (lane_of setup.job None row.source 0
        row.tuple) (lane_at setup.job fed.n) (item.Carry (fed_tuple m row)) old fed.along source
        far.quiescent.conserved));
    lawful = λ w b. (law w (omega (arith, b, fed.delivered.long))).0;
    waits = λ w b. (law w (omega (arith, b, fed.delivered.long))).1
        ∙ (follow w (omega (arith, b, fed.delivered.long))).1;
  };
}
  where
    put : Put
    put = record {
      lane = lane_of setup.job None row.source 0 row.tuple;
      item = item.Carry
          (fed_tuple m row);
    }

    source : (lane_at setup.job fed.n).sender ≡ None
    source = (is_lane_of setup.job None row.source 0 row.tuple (lane_at setup.job fed.n)
        fed.along).sender_is

    row_there : row_numbered rows row.tuple.row ≡ Some row
    row_there = let s : row.tuple.row ≡ suc k = omega (arith, number) in ap (row_numbered rows) s ∙ there

    puts_are : fed_puts setup.job rows 0 (feeds ++ feed.Fed row.tuple.row ∷ [])
        ≡ fed_puts setup.job rows 0 feeds ++ put ∷ []
    puts_are =
        fed_puts-append setup.job rows 0 m feeds (feed.Fed row.tuple.row ∷ []) (let d = far.counted
        in omega (arith, d))
        ∙ ap (λ (ps : List Put). fed_puts setup.job rows 0 feeds ++ ps) (append-nil (fed_put
        setup.job m (row_numbered rows row.tuple.row)) ∙ ap (fed_put setup.job m) row_there)

    follow : (w : ℕ) → w < length old → IsExecution (duties setup 0 (nth_worker setup.job w)) (waiting
        setup (nth_worker setup.job w) m) (fed.delivered.met w).more
        × (progress_after (waiting setup (nth_worker setup.job w) m) (fed.delivered.met w).more
        ≡ waiting setup (nth_worker setup.job w) m)
    follow w c =
        meetings-follow setup w row.tuple.row m (nth_worker setup.job w) (fed.delivered.met w).more
        (worker_at setup.job w (omega (arith, c, far.quiescent.long))).0 (fed.delivered.met
        w).meetings

    law : (w : ℕ) → w < length old → IsExecution (duties setup 0 (nth_worker setup.job w)) (initial
        (duties setup 0 (nth_worker setup.job w))) (journal_at new w)
        × (progress_after (initial (duties setup 0 (nth_worker setup.job w))) (journal_at new w)
        ≡ progress_after (waiting setup (nth_worker setup.job w) m) (fed.delivered.met w).more)
    law w c =
        law_gains (duties setup 0 (nth_worker setup.job w)) (waiting setup (nth_worker setup.job w) m)
        (journal_at old w) (fed.delivered.met w).more (journal_at new w) (fed.delivered.met
        w).is
        (far.quiescent.lawful w c) (far.quiescent.waits w c) (follow w c).0

-- ---- before the first step

pub first_far : (setup : SetupView) (rows : List Row) (runs : List WorkerRun) →
    AreEmpty setup runs → IsSoFar setup rows [] 0 runs
first_far setup rows runs none = record {
  counted = refl;
  quiescent = record {
    long = none.long;
    in_force = λ w b. subst (λ (d : WorkerRun). run_view setup (nth_worker setup.job w) d
        ≡ after_all setup (nth_worker setup.job w) (first_view setup (nth_worker setup.job w)) d.journal)
        (sym (none.each w b)) refl;
    conserved = λ n l g. tie n l g l.sender refl;
    lawful = λ w b. subst (λ (d : WorkerRun). IsExecution (duties setup 0 (nth_worker setup.job w))
        (initial (duties setup 0 (nth_worker setup.job w))) d.journal) (sym (none.each w b)) tt;
    waits = λ w b. subst (λ (d : WorkerRun). progress_after (initial (duties setup 0 (nth_worker
        setup.job w))) d.journal ≡ waiting setup (nth_worker setup.job w) 0) (sym (none.each w b))
        refl;
  };
}
  where
    -- no journal has an entry
    blank : (w : ℕ) → w < length (workers_in setup.job) → journal_at runs w ≡ []
    blank w b = ap (λ (d : WorkerRun). d.journal) (none.each w (let l = none.long in omega (
      arith,
      b,
      l,
    )))

    tie : (n : ℕ) (l : Lane) → slice_get (lanes setup.job) n ≡ Some l → (o : Option ℕ) →
        l.sender ≡ o → put_so_far setup [] runs l o
        ≡ shown setup n (journal_at runs l.receiver) ++ []
    tie n l g None e = sym (ap (λ (j : List Entry). shown setup n j ++ []) (blank l.receiver
        (receiver_below setup.job n l g)))
    tie n l g (Some s) e =
        ap (sent_by setup l s) (blank s (is_sending setup.job n l s g e).below)
        ∙ sym (ap (λ (j : List Entry). shown setup n j ++ []) (blank l.receiver (receiver_below
        setup.job n l g)))
