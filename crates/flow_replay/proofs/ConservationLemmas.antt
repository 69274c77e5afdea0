-- What is on the lanes, where one worker's journal gains one entry.
use Rattle.std.proofs.Common.{◌≡◌, ◌≢◌, ◌<◌, ◌≤◌, ◌==◌, ◌⊎◌, ℕ, List, [], ◌∷◌, ◌++◌, inl, inr, Bool, true, false, cond, length, map, Option, Some, None, refl, sym, ap, subst, ◌∙◌, arith, append_assoc}
use Rattle.std.specs.Prelude.{slice_get}
use Rattle.std.specs.List.{cons_option}
use Rattle.std.proofs.lemmas.Bool.{eq-eqb, eqb-false, eqb-true}
use Rattle.std.proofs.lemmas.List.{append-nil}
use Rattle.std.proofs.lemmas.Option.{same_Some}
use Rattle.jobs.specs.JobView.{JobView}
use Rattle.operators.specs.declared.output.Output.{Output}
use Rattle.sink_journal.specs.declared.journal.Entry.{Entry}
use Rattle.sink_journal.specs.declared.journal.Entry.TheVariants as entry
use Rattle.tuple_trace.specs.declared.tuple.Item.{Item}
use Rattle.tuple_trace.specs.declared.tuple.Item.TheVariants as item
use Rattle.tuple_trace.specs.declared.tuple.Tuple.{Tuple}
use Rattle.flow_model.specs.Lanes.{is_same_lane, lane_of, lanes}
use Rattle.flow_model.specs.declared.topology.Lane.{Lane}
use Rattle.flow_model.specs.SetupView.{SetupView, Worker}
use Rattle.flow_model.specs.Replay.{StateView, Put, after, after_all, items_on, put_out, puts, items_sent, shown}
use Rattle.flow_model.proofs.JournalLemmas.{after_all-append, sent-append, shown-append}
use Rattle.flow_model.proofs.LaneLemmas.{lane_self, same_lane, same_number}
use Rattle.flow_replay.specs.declared.worker_run.WorkerRun.{WorkerRun}
use Rattle.flow_replay.specs.inner.Runs.{AreInForce, IsConserved, IsQuiescentFrom, IsStep, first_view, from_node, journal_at, made_at, put_so_far, run_at, run_view, with_item}
use Rattle.flow_model.proofs.LaneNumbers.{is_lane_of}
use Rattle.flow_replay.proofs.RankLemmas.{from_node-is}
use Rattle.flow_model.specs.Workers.{nth_worker}

-- ---- the lanes of what a worker makes

-- a lane that an output was given is one of the sender, from its node
pub its_lane : (job : JobView) (who : Worker) (out : Output) (l : Lane) →
    is_same_lane (lane_of job (Some who.number) who.node out.port out.tuple) l ≡ true
    → (lane_of job (Some who.number) who.node out.port out.tuple ≡ Some l) × (l.sender
    ≡ Some who.number) × (from_node job l ≡ who.node)
its_lane job who out l e =
    let found = same_lane (lane_of job (Some who.number) who.node out.port out.tuple) l e in
    let is = is_lane_of job (Some who.number) who.node out.port out.tuple l found in
    (found, is.sender_is, from_node-is job l is.edge is.edge_is ∙ is.from_is)

abbrev pub out_puts : JobView → Worker → List Output → List Put
out_puts job who outs = map (put_out job who) outs

-- the outputs of a worker stand on its lanes alone
pub mine : (job : JobView) (who : Worker) (outs : List Output) (l : Lane) →
    (items_on l (out_puts job who outs) ≡ []) ⊎ ((l.sender
    ≡ Some who.number) × (from_node job l ≡ who.node))
mine job who [] l = inl refl
mine job who (out ∷ outs) l = go (is_same_lane (lane_of job (Some who.number) who.node out.port
    out.tuple) l) refl (mine job who outs l)
  where
    go : (b : Bool) → is_same_lane (lane_of job (Some who.number) who.node out.port out.tuple) l ≡
        b → (items_on l (out_puts job who outs) ≡ []) ⊎ ((l.sender
        ≡ Some who.number) × (from_node job l ≡ who.node))
        → (cons_option (cond b (Some (item.Carry out.tuple)) None) (items_on l (out_puts job who
        outs)) ≡ []) ⊎ ((l.sender ≡ Some who.number) × (from_node job l ≡ who.node))
    go true t later = let is = its_lane job who out l t in inr (is.1, is.2)
    go false t later = later

-- ---- one entry more at one worker

abbrev pub sent_by : SetupView → Lane → ℕ → List Entry → List Item
sent_by setup lane w journal = items_sent setup (nth_worker setup.job w) (first_view setup (nth_worker setup.job
    w)) lane journal

pub sent-push : (setup : SetupView) (who : Worker) (view : StateView) (lane : Lane) (journal : List Entry)
    (e : Entry)
    → items_sent setup who view lane (journal ++ e ∷ [])
    ≡ items_sent setup who view lane journal ++ items_on lane (puts setup who (after_all setup who
    view journal) e)
sent-push setup who view lane journal e =
    sent-append setup who view lane journal (e ∷ [])
    ∙ ap (λ (l : List Item). items_sent setup who view lane journal ++ l) (append-nil (items_on lane
    (puts setup who (after_all setup who view journal) e)))

sent_step : (setup : SetupView) (w : ℕ) (e : Entry) (old new : List WorkerRun) →
    IsStep setup w e old new
    → run_view setup (nth_worker setup.job w) (run_at old w)
    ≡ after_all setup (nth_worker setup.job w) (first_view setup (nth_worker setup.job w)) (journal_at old
    w)
    → (l : Lane) (s : ℕ) → (items_on l (puts setup (nth_worker setup.job w) (run_view setup (nth_worker
    setup.job w) (run_at old w)) e) ≡ []) ⊎ (s ≡ w)
    → sent_by setup l s (journal_at new s) ≡ sent_by setup l s (journal_at old s) ++ items_on l
    (puts setup (nth_worker setup.job w) (run_view setup (nth_worker setup.job w) (run_at old w)) e)
sent_step setup w e old new step f l s h = go (s == w) refl
  where
    at_w : sent_by setup l w (journal_at new w) ≡ sent_by setup l w (journal_at old w) ++ items_on l
        (puts setup (nth_worker setup.job w) (run_view setup (nth_worker setup.job w) (run_at old w)) e)
    at_w =
        ap (sent_by setup l w) step.journal
        ∙ (sent-push setup (nth_worker setup.job w) (first_view setup (nth_worker setup.job w)) l
        (journal_at old w) e
        ∙ ap (λ (x : StateView). sent_by setup l w (journal_at old w) ++ items_on l (puts setup (nth_worker
        setup.job w) x e)) (sym f))

    empty : s ≢ w → (items_on l (puts setup (nth_worker setup.job w) (run_view setup (nth_worker setup.job
        w) (run_at old w)) e) ≡ []) ⊎ (s ≡ w) → items_on l (puts setup (nth_worker setup.job w)
        (run_view setup (nth_worker setup.job w) (run_at old w)) e) ≡ []
    empty n (inl p) = p
    empty n (inr p) = absurd (n p)

    go : (b : Bool) → (s == w) ≡ b → sent_by setup l s (journal_at new s)
        ≡ sent_by setup l s (journal_at old s) ++ items_on l (puts setup (nth_worker setup.job w)
        (run_view setup (nth_worker setup.job w) (run_at old w)) e)
    go true t = subst (λ (x : ℕ). sent_by setup l x (journal_at new x)
        ≡ sent_by setup l x (journal_at old x) ++ items_on l (puts setup (nth_worker setup.job w)
        (run_view setup (nth_worker setup.job w) (run_at old w)) e)) (sym (eqb-true s w t)) at_w
    go false t =
        ap (λ (d : WorkerRun). sent_by setup l s d.journal) (step.others s (eqb-false s w t))
        ∙ (sym (append-nil (sent_by setup l s (journal_at old s)))
        ∙ ap (λ (xs : List Item). sent_by setup l s (journal_at old s) ++ xs) (sym (empty (eqb-false
        s w t) h)))

pub put_step : (setup : SetupView) (w : ℕ) (e : Entry) (old new : List WorkerRun) →
    IsStep setup w e old new
    → run_view setup (nth_worker setup.job w) (run_at old w)
    ≡ after_all setup (nth_worker setup.job w) (first_view setup (nth_worker setup.job w)) (journal_at old
    w)
    → (l : Lane) (fed : List Put) (sender : Option ℕ) →
    (items_on l (puts setup (nth_worker setup.job w) (run_view setup (nth_worker setup.job w) (run_at old
    w)) e) ≡ []) ⊎ (sender ≡ Some w)
    → put_so_far setup fed new l sender ≡ put_so_far setup fed old l sender ++ items_on l (puts
    setup (nth_worker setup.job w) (run_view setup (nth_worker setup.job w) (run_at old w)) e)
put_step setup w e old new step f l fed None (inl p) = sym (append-nil (items_on l fed))
    ∙ ap (λ (xs : List Item). items_on l fed ++ xs) (sym p)
put_step setup w e old new step f l fed None (inr p) = absurd (cc)
put_step setup w e old new step f l fed (Some s) (inl p) = sent_step setup w e old new step f l s
    (inl p)
put_step setup w e old new step f l fed (Some s) (inr p) = sent_step setup w e old new step f l s
    (inr (same_Some s w p))

-- what is shown, with what is in flight, stays: the tuple that was in flight is shown
shown_step : (setup : SetupView) (n : ℕ) (lane : Lane) (m : ℕ) (l : Lane) (t : Tuple) (old new : List
    WorkerRun) → slice_get (lanes setup.job) n ≡ Some lane → slice_get (lanes setup.job) m ≡ Some l
    → IsStep setup lane.receiver (entry.Met n t) old new → (in_flight : Lane → List Item)
    → shown setup m (journal_at old l.receiver) ++ with_item lane (item.Carry t) in_flight l
    ≡ shown setup m (journal_at new l.receiver) ++ in_flight l
shown_step setup n lane m l t old new gn gm step in_flight = go (is_same_lane (Some lane) l) refl
  where
    -- at the receiver
    there : l.receiver ≡ lane.receiver → shown setup m (journal_at new l.receiver)
        ≡ shown setup m (journal_at old l.receiver) ++ cond (n == m) (item.Carry t ∷ []) []
    there r =
        subst (λ (v : ℕ). shown setup m (journal_at new v)
        ≡ shown setup m (journal_at old v) ++ cond (n == m) (item.Carry t ∷ []) []) (sym r)
        (ap (shown setup m) step.journal ∙ (shown-append setup m (journal_at old lane.receiver)
        (entry.Met n t ∷ [])
        ∙ ap (λ (xs : List Item). shown setup m (journal_at old lane.receiver) ++ xs) (append-nil
        (cond (n == m) (item.Carry t ∷ []) []))))

    apart : (b : Bool) → (n == m) ≡ b → is_same_lane (Some lane) l ≡ false → (n == m) ≡ false
    apart false e d = e
    apart true e d =
        let k : n ≡ m = eqb-true n m e in
        let h : slice_get (lanes setup.job) m ≡ Some lane = ap (slice_get (lanes setup.job)) (sym k)
        ∙ gn in
        let s : lane ≡ l = same_Some lane l (sym h ∙ gm) in
        let q : is_same_lane (Some lane) l ≡ true = subst (λ (x : Lane). is_same_lane (Some lane) x
        ≡ true) s (lane_self lane) in
        absurd (cc)

    kept : is_same_lane (Some lane) l ≡ false → (b : Bool) → (l.receiver == lane.receiver) ≡ b →
        shown setup m (journal_at old l.receiver) ≡ shown setup m (journal_at new l.receiver)
    kept d true u =
        let other : (n == m) ≡ false = apart (n == m) refl d in
        sym (there (eqb-true l.receiver lane.receiver u)
        ∙ (ap (λ (b : Bool). shown setup m (journal_at old l.receiver) ++ cond b (item.Carry t ∷ [])
        []) other ∙ append-nil (shown setup m (journal_at old l.receiver))))
    kept d false u = ap (λ (p : WorkerRun). shown setup m p.journal) (sym (step.others l.receiver
        (eqb-false l.receiver lane.receiver u)))

    go : (b : Bool) → is_same_lane (Some lane) l ≡ b →
        shown setup m (journal_at old l.receiver) ++ cond b (item.Carry t ∷ in_flight l) (in_flight
        l) ≡ shown setup m (journal_at new l.receiver) ++ in_flight l
    go true e =
        let s = same_Some lane l (same_lane (Some lane) l e) in
        let k : n ≡ m = same_number setup.job lane l n m gn gm s in
        let q : (n == m) ≡ true = eq-eqb n m k in
        let r : l.receiver ≡ lane.receiver = ap (λ (x : Lane). x.receiver) (sym s) in
        sym (ap (λ (xs : List Item). xs ++ in_flight l) (there r
        ∙ ap (λ (b : Bool). shown setup m (journal_at old l.receiver) ++ cond b (item.Carry t ∷
        []) []) q)
        ∙ append_assoc (shown setup m (journal_at old l.receiver)) (item.Carry t ∷ []) (in_flight
        l))
    go false e = ap (λ (xs : List Item). xs ++ in_flight l) (kept e (l.receiver == lane.receiver)
        refl)

-- ---- a meeting

pub meet_conserved : (setup : SetupView) (rank : ℕ →
    ℕ) (n : ℕ) (lane : Lane) (t : Tuple) (old new : List WorkerRun) →
    slice_get (lanes setup.job) n ≡ Some lane
    → (nth_worker setup.job lane.receiver).number ≡ lane.receiver →
    IsStep setup lane.receiver (entry.Met n t) old new
    → run_view setup (nth_worker setup.job lane.receiver) (run_at old lane.receiver)
    ≡ after_all setup (nth_worker setup.job lane.receiver) (first_view setup (nth_worker setup.job
    lane.receiver)) (journal_at old lane.receiver)
    → (fed : List Put) (in_flight : Lane → List Item) →
    IsQuiescentFrom setup.job rank (rank (nth_worker setup.job lane.receiver).node) in_flight
    → IsConserved setup fed old (with_item lane (item.Carry t) in_flight)
    → IsConserved setup fed new (λ (l : Lane). items_on l (out_puts setup.job (nth_worker setup.job
    lane.receiver) (made_at setup (nth_worker setup.job lane.receiver) (run_at old lane.receiver) t))
    ++ in_flight l)
meet_conserved setup rank n lane t old new g num step f fed in_flight quiescent conserved m l h = go
    (mine setup.job who outs l)
  where
    who : Worker
    who = nth_worker setup.job lane.receiver

    outs : List Output
    outs = made_at setup (nth_worker setup.job lane.receiver) (run_at old lane.receiver) t

    whose : (items_on l (out_puts setup.job who outs) ≡ []) ⊎ ((l.sender
        ≡ Some who.number) × (from_node setup.job l ≡ who.node)) →
        (items_on l (out_puts setup.job who outs) ≡ []) ⊎ (l.sender ≡ Some lane.receiver)
    whose (inl p) = inl p
    whose (inr p) = inr (p.0 ∙ ap Some num)

    -- nothing else is in flight on the lanes out
    turned : (items_on l (out_puts setup.job who outs) ≡ []) ⊎ ((l.sender
        ≡ Some who.number) × (from_node setup.job l ≡ who.node))
        → in_flight l ++ items_on l (out_puts setup.job who outs)
        ≡ items_on l (out_puts setup.job who outs) ++ in_flight l
    turned (inl p) = ap (λ (xs : List Item). in_flight l ++ xs) p ∙ (append-nil (in_flight l)
        ∙ ap (λ (xs : List Item). xs ++ in_flight l) (sym p))
    turned (inr p) =
        let e : in_flight l ≡ [] = quiescent m l h (subst (λ (v : ℕ). rank who.node ≤ rank v) (sym
        p.1) (omega arith)) in
        ap (λ (xs : List Item). xs ++ items_on l (out_puts setup.job who outs)) e
        ∙ (sym (append-nil (items_on l (out_puts setup.job who outs)))
        ∙ ap (λ (xs : List Item). items_on l (out_puts setup.job who outs) ++ xs) (sym e))

    go : (items_on l (out_puts setup.job who outs) ≡ []) ⊎ ((l.sender
        ≡ Some who.number) × (from_node setup.job l ≡ who.node))
        → put_so_far setup fed new l l.sender ≡ shown setup m (journal_at new l.receiver) ++
        (items_on l (out_puts setup.job who outs) ++ in_flight l)
    go k =
        put_step setup lane.receiver (entry.Met n t) old new step f l fed l.sender (whose k)
        ∙ (ap (λ (xs : List Item). xs ++ items_on l (out_puts setup.job who outs)) (conserved m l h
        ∙ shown_step setup n lane m l t old new g h step in_flight)
        ∙ (append_assoc (shown setup m (journal_at new l.receiver)) (in_flight l) (items_on l
        (out_puts setup.job who outs))
        ∙ ap (λ (xs : List Item). shown setup m (journal_at new l.receiver) ++ xs) (turned k)))

pub in_force_step : (setup : SetupView) (w : ℕ) (e : Entry) (old new : List WorkerRun) →
    IsStep setup w e old new → AreInForce setup old → AreInForce setup new
in_force_step setup w e old new step f v below = go (v == w) refl
  where
    old_below : v < length old
    old_below = omega (arith, step.long)

    go : (b : Bool) → (v == w) ≡ b → run_view setup (nth_worker setup.job v) (run_at new v)
        ≡ after_all setup (nth_worker setup.job v) (first_view setup (nth_worker setup.job v)) (journal_at
        new v)
    go true t =
        let s = eqb-true v w t in
        let w_below : w < length old = subst (λ (x : ℕ). x < length old) s old_below in
        subst (λ (x : ℕ). run_view setup (nth_worker setup.job x) (run_at new x)
        ≡ after_all setup (nth_worker setup.job x) (first_view setup (nth_worker setup.job x))
        (journal_at new x)) (sym s)
        (step.view ∙ (ap (λ (x : StateView). after setup (nth_worker setup.job w) x e) (f w w_below)
        ∙ (sym (after_all-append setup (nth_worker setup.job w) (first_view setup (nth_worker setup.job
        w)) (journal_at old w) (e ∷ []))
        ∙ ap (after_all setup (nth_worker setup.job w) (first_view setup (nth_worker setup.job w))) (sym
        step.journal))))
    go false t =
        let s = step.others v (eqb-false v w t) in
        subst (λ (p : WorkerRun). run_view setup (nth_worker setup.job v) p
        ≡ after_all setup (nth_worker setup.job v) (first_view setup (nth_worker setup.job v))
        p.journal) (sym s) (f v old_below)
