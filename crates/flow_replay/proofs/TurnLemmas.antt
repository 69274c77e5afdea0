-- What is on the lanes where all covered workers turn, and where all workers end.
use Rattle.std.proofs.Common.{◌≡◌, ◌<◌, ◌+◌, ◌==◌, ◌&&◌, ℕ, List, [], ◌∷◌, ◌++◌, inl, inr, Bool, true, false, cond, length, map, Option, Some, None, refl, sym, ap, subst, ◌∙◌, arith}
use Rattle.std.specs.Prelude.{filter, slice_get}
use Rattle.std.specs.List.{flat_map}
use Rattle.std.proofs.lemmas.Bool.{eq-eqb, ne_eqb}
use Rattle.std.proofs.lemmas.List.{append-nil}
use Rattle.std.proofs.lemmas.List.Elements.{filter_map-append}
use Rattle.std.proofs.lemmas.Option.{same_Some, slice_get_within}
use Rattle.flow_dag.specs.declared.edge.Edge.{Edge}
use Rattle.jobs.specs.JobView.{JobView}
use Rattle.sink_journal.specs.declared.journal.Entry.{Entry}
use Rattle.sink_journal.specs.declared.journal.Entry.TheVariants as entry
use Rattle.tuple_trace.specs.declared.tuple.Item.{Item}
use Rattle.tuple_trace.specs.declared.tuple.Item.TheVariants as item
use Rattle.flow_model.specs.Covers.{covers, covers_edge}
use Rattle.flow_model.specs.Lanes.{lanes, lanes_in, lanes_out, lanes_that, marked_lanes, senders}
use Rattle.flow_model.specs.declared.topology.Lane.{Lane}
use Rattle.flow_model.specs.SetupView.{SetupView, Worker}
use Rattle.flow_model.specs.Replay.{StateView, Put, after, after_all, came_in, item_on, items_on, marker, put_on_each, puts, items_sent, shown}
use Rattle.flow_model.specs.Workers.{nth_worker, workers_in}
use Rattle.flow_model.proofs.ElementLemmas.{AreDistinct, IsIn, distinct_filter, filter_in, in_filter}
use Rattle.flow_model.proofs.JournalLemmas.{sent-append, shown-append}
use Rattle.flow_model.proofs.LaneLemmas.{LaneIs, in_lanes_that, lane_is, lanes_that-distinct, lanes_that_in, sender_source, sender_worker}
use Rattle.flow_replay.specs.declared.worker_run.WorkerRun.{WorkerRun}
use Rattle.flow_replay.specs.inner.Runs.{AllGain, IsConserved, end_block, first_view, journal_at, marks, nothing, put_so_far, turn_block, turn_entries}
use Rattle.flow_model.proofs.CoverLemmas.{AreCovering}
use Rattle.flow_replay.proofs.FollowLemmas.{ended_all}
use Rattle.flow_model.proofs.LaneNumbers.{receiver_below, receiver_node}
use Rattle.flow_model.proofs.WorkerPlaces.{nth_worker-get}
use Rattle.flow_model.proofs.OutLanes.{goes_out, none_on, one_on, out_distinct}
use Rattle.flow_replay.proofs.ConservationLemmas.{sent_by}

-- ---- items on each of several lanes

all_on : (xs : List Item) (l : Lane) (ls : List Lane) → AreDistinct ls → IsIn l ls →
    items_on l (flat_map (λ (x : Item). put_on_each x ls) xs) ≡ xs
all_on [] l ls d h = refl
all_on (x ∷ xs) l ls d h =
    filter_map-append (item_on l) (put_on_each x ls) (flat_map (λ (x : Item). put_on_each x ls) xs)
    ∙ (ap (λ (ys : List Item). ys ++ items_on l (flat_map (λ (x : Item). put_on_each x ls) xs))
    (one_on x l ls d h) ∙ ap (λ (ys : List Item). x ∷ ys) (all_on xs l ls d h))

all_off : (xs : List Item) (l : Lane) (ls : List Lane) → ¬ IsIn l ls →
    items_on l (flat_map (λ (x : Item). put_on_each x ls) xs) ≡ []
all_off [] l ls h = refl
all_off (x ∷ xs) l ls h =
    filter_map-append (item_on l) (put_on_each x ls) (flat_map (λ (x : Item). put_on_each x ls) xs)
    ∙ (ap (λ (ys : List Item). ys ++ items_on l (flat_map (λ (x : Item). put_on_each x ls) xs))
    (none_on x l ls h) ∙ all_off xs l ls h)

-- ---- entries of several lanes

shown_none : (setup : SetupView) (n : ℕ) (x : List Item) (f : ℕ → Entry) → ((k : ℕ) →
    came_in setup n (f k) ≡ cond (k == n) x []) → (ns : List ℕ) → ¬ IsIn n ns →
    shown setup n (map f ns) ≡ []
shown_none setup n x f is [] h = refl
shown_none setup n x f is (k ∷ ns) h =
    let other : (k == n) ≡ false = ne_eqb k n (λ e. h (inl (sym e))) in
    ap (λ (xs : List Item). xs ++ shown setup n (map f ns)) (is k
    ∙ ap (λ (b : Bool). cond b x []) other) ∙ shown_none setup n x f is ns (λ i. h (inr i))

shown_one : (setup : SetupView) (n : ℕ) (x : List Item) (f : ℕ → Entry) → ((k : ℕ) →
    came_in setup n (f k) ≡ cond (k == n) x []) → (ns : List ℕ) → AreDistinct ns → IsIn n ns →
    shown setup n (map f ns) ≡ x
shown_one setup n x f is [] d h = absurd h
shown_one setup n x f is (k ∷ ns) d (inl e) =
    let same : (k == n) ≡ true = eq-eqb k n (sym e) in
    ap (λ (xs : List Item). xs ++ shown setup n (map f ns)) (is k
    ∙ ap (λ (b : Bool). cond b x []) same)
    ∙ (ap (λ (xs : List Item). x ++ xs) (shown_none setup n x f is ns (subst (λ (z : ℕ). ¬ IsIn z
    ns) (sym e) d.0)) ∙ append-nil x)
shown_one setup n x f is (k ∷ ns) d (inr i) =
    let other : (k == n) ≡ false = ne_eqb k n (λ e. d.0 (subst (λ (z : ℕ). IsIn z ns) (sym e) i)) in
    ap (λ (xs : List Item). xs ++ shown setup n (map f ns)) (is k
    ∙ ap (λ (b : Bool). cond b x []) other) ∙ shown_one setup n x f is ns d.1 i

not_that : (test : Lane → Bool) (job : JobView) (n : ℕ) (l : Lane) → slice_get (lanes job) n
    ≡ Some l → test l ≡ false → ¬ IsIn n (lanes_that test job)
not_that test job n l g t h =
    let (x, there, pass) = in_lanes_that test job n h in
    let same : x ≡ l = same_Some x l (sym there ∙ g) in
    let q : test l ≡ true = subst (λ (z : Lane). test z ≡ true) same pass in
    absurd (cc)

-- ---- what a turn puts and shows

turn_sent : (setup : SetupView) (who : Worker) (view : StateView) (l : Lane) (r : ℕ) (ns : List ℕ) →
    items_sent setup who view l (marks r ns ++ entry.Turned r ∷ [])
    ≡ items_on l (puts setup who view (entry.Turned r))
turn_sent setup who view l r [] = append-nil (items_on l (puts setup who view (entry.Turned r)))
turn_sent setup who view l r (n ∷ ns) = turn_sent setup who view l r ns

abbrev mark_on : SetupView → ℕ → Lane → List Item
mark_on setup r l = cond (covers_edge setup r l.edge) (marker setup r) []

turn_items : (setup : SetupView) (n : ℕ) (l : Lane) (r s : ℕ) (who : Worker) (view : StateView) →
    slice_get (lanes setup.job) n ≡ Some l → l.sender ≡ Some s → who.number ≡ s
    → items_on l (puts setup who view (entry.Turned r)) ≡ mark_on setup r l
turn_items setup n l r s who view g e num = go (covers_edge setup r l.edge) refl
  where
    out : IsIn l (lanes_out setup.job who.number)
    out = subst (λ (v : ℕ). IsIn l (lanes_out setup.job v)) (sym num) (goes_out setup.job n l s g e)

    go : (b : Bool) → covers_edge setup r l.edge ≡ b →
        items_on l (puts setup who view (entry.Turned r)) ≡ cond b (marker setup r) []
    go true t =
        all_on (marker setup r) l (filter (λ (lane : Lane). covers_edge setup r lane.edge)
        (lanes_out setup.job who.number))
        (distinct_filter (λ (lane : Lane). covers_edge setup r lane.edge) (lanes_out setup.job
        who.number) (out_distinct setup.job who.number))
        (filter_in (λ (lane : Lane). covers_edge setup r lane.edge) l (lanes_out setup.job
        who.number) out t)
    go false t =
        all_off (marker setup r) l (filter (λ (lane : Lane). covers_edge setup r lane.edge)
        (lanes_out setup.job who.number))
        (λ i. let k = in_filter (λ (lane : Lane). covers_edge setup r lane.edge) l (lanes_out
        setup.job who.number) i in let q = k.1 in absurd (cc))

turn_shown : (setup : SetupView) (n : ℕ) (l : Lane) (r : ℕ) → slice_get (lanes setup.job) n
    ≡ Some l → shown setup n (turn_entries setup r l.receiver) ≡ mark_on setup r l
turn_shown setup n l r g =
    shown-append setup n (map (λ (k : ℕ). entry.Marked k r) (lanes_that test setup.job))
    (entry.Turned r ∷ [])
    ∙ (append-nil (shown setup n (map (λ (k : ℕ). entry.Marked k r) (lanes_that test setup.job))) ∙
    go (covers_edge setup r l.edge) refl)
  where
    test : Lane → Bool
    test lane = (lane.receiver == l.receiver) && covers_edge setup r lane.edge

    go : (b : Bool) → covers_edge setup r l.edge ≡ b →
        shown setup n (map (λ (k : ℕ). entry.Marked k r) (lanes_that test setup.job))
        ≡ cond b (marker setup r) []
    go true t =
        shown_one setup n (marker setup r) (λ (k : ℕ). entry.Marked k r) (λ k. refl) (lanes_that
        test setup.job) (lanes_that-distinct test setup.job)
        (lanes_that_in test setup.job n l g (ap (λ (b : Bool). b && covers_edge setup r l.edge)
        (eq-eqb l.receiver l.receiver refl) ∙ t))
    go false t =
        shown_none setup n (marker setup r) (λ (k : ℕ). entry.Marked k r) (λ k. refl) (lanes_that
        test setup.job)
        (not_that test setup.job n l g (ap (λ (b : Bool). (l.receiver == l.receiver) && b) t
        ∙ ap (λ (b : Bool). b && false) (eq-eqb l.receiver l.receiver refl)))

-- ---- all turn

-- the worker that sends on a lane
pub record IsSending (job : JobView) (l : Lane) (s : ℕ) : Type 0 where
  pub edge : Edge
  pub edge_is : slice_get job.edges l.edge ≡ Some edge
  pub below : s < length (workers_in job)
  pub number_is : (nth_worker job s).number ≡ s
  pub node_is : (nth_worker job s).node ≡ edge.from

pub is_sending : (job : JobView) (n : ℕ) (l : Lane) (s : ℕ) → slice_get (lanes job) n ≡ Some l →
    l.sender ≡ Some s → IsSending job l s
is_sending job n l s g e =
    let is = lane_is job n l g in
    let (who, there, number, node) = sender_worker job is.edge.from s (subst (λ (o : Option ℕ).
    IsIn o (senders job is.edge.from)) e is.sends) in
    let same = nth_worker-get job s who there in
    record {
      edge = is.edge;
      edge_is = is.edge_is;
      below = slice_get_within (workers_in job) s who there;
      number_is = ap (λ (p : Worker). p.number) same ∙ number;
      node_is = ap (λ (p : Worker). p.node) same ∙ node;
    }

pub turns_conserve : (setup : SetupView) (fed : List Put) (r : ℕ) (old new : List WorkerRun) →
    AreCovering setup → length old ≡ length (workers_in setup.job) →
    AllGain setup (turn_block setup r) old new
    → IsConserved setup fed old nothing → IsConserved setup fed new nothing
turns_conserve setup fed r old new covering long gain conserved n l g =
    put_gain l.sender refl
    ∙ (ap (λ (xs : List Item). xs ++ mark_on setup r l) (conserved n l g
    ∙ append-nil (shown setup n (journal_at old l.receiver)))
    ∙ (sym shown_gain ∙ sym (append-nil (shown setup n (journal_at new l.receiver)))))
  where
    is : LaneIs setup.job l
    is = lane_is setup.job n l g

    -- a node that isn't covered has no covered edge
    no_mark : (v : ℕ) → (covers_edge setup r l.edge ≡ true → covers setup r v ≡ true) →
        covers setup r v ≡ false → mark_on setup r l ≡ []
    no_mark v h z = go (covers_edge setup r l.edge) refl
      where
        go : (b : Bool) → covers_edge setup r l.edge ≡ b → cond b (marker setup r) [] ≡ []
        go true e = absurd (let q = h e in cc)
        go false e = refl

    put_gain : (o : Option ℕ) → l.sender ≡ o → put_so_far setup fed new l o
        ≡ put_so_far setup fed old l o ++ mark_on setup r l
    put_gain None e =
        let source = sender_source setup.job is.edge.from (subst (λ (o : Option ℕ). IsIn o (senders
        setup.job is.edge.from)) e is.sends) in
        let none : covers_edge setup r l.edge ≡ false = covering.no_source r l.edge is.edge
        is.edge_is source in
        sym (append-nil (items_on l fed)) ∙ ap (λ (b : Bool). items_on l fed ++ cond b (marker setup
        r) []) (sym none)
    put_gain (Some s) e = ap (sent_by setup l s) (gain.each s below).journal
        ∙ of_worker (covers setup r (nth_worker setup.job s).node) refl
      where
        by : IsSending setup.job l s
        by = is_sending setup.job n l s g e

        below : s < length old
        below = omega (arith, by.below, long)

        covered : covers_edge setup r l.edge ≡ true → covers setup r (nth_worker setup.job s).node
            ≡ true
        covered t = ap (covers setup r) by.node_is ∙ covering.from r l.edge by.edge by.edge_is t

        here : StateView
        here = after_all setup (nth_worker setup.job s) (first_view setup (nth_worker setup.job s))
            (journal_at old s)

        of_worker : (b : Bool) → covers setup r (nth_worker setup.job s).node ≡ b
            → sent_by setup l s (journal_at old s ++ cond (covers setup r (nth_worker setup.job
            s).node) (turn_entries setup r s) []) ≡ sent_by setup l s (journal_at old s) ++ mark_on
            setup r l
        of_worker true z =
            ap (λ (b : Bool). sent_by setup l s (journal_at old s ++ cond b (turn_entries setup r s)
            [])) z
            ∙ (sent-append setup (nth_worker setup.job s) (first_view setup (nth_worker setup.job s)) l
            (journal_at old s) (turn_entries setup r s)
            ∙ ap (λ (xs : List Item). sent_by setup l s (journal_at old s) ++ xs)
            (turn_sent setup (nth_worker setup.job s) here l r (marked_lanes setup s r)
            ∙ turn_items setup n l r s (nth_worker setup.job s) here g e by.number_is))
        of_worker false z =
            ap (λ (b : Bool). sent_by setup l s (journal_at old s ++ cond b (turn_entries setup r s)
            [])) z
            ∙ (ap (sent_by setup l s) (append-nil (journal_at old s))
            ∙ (sym (append-nil (sent_by setup l s (journal_at old s)))
            ∙ ap (λ (xs : List Item). sent_by setup l s (journal_at old s) ++ xs) (sym (no_mark
            (nth_worker setup.job s).node covered z))))

    shown_gain : shown setup n (journal_at new l.receiver)
        ≡ shown setup n (journal_at old l.receiver) ++ mark_on setup r l
    shown_gain = ap (shown setup n) (gain.each l.receiver below).journal
        ∙ of_worker (covers setup r (nth_worker setup.job l.receiver).node) refl
      where
        below : l.receiver < length old
        below = let b = receiver_below setup.job n l g in omega (arith, b, long)

        covered : covers_edge setup r l.edge ≡ true →
            covers setup r (nth_worker setup.job l.receiver).node ≡ true
        covered t = ap (covers setup r) (receiver_node setup.job l is)
            ∙ covering.to r l.edge is.edge is.edge_is t

        of_worker : (b : Bool) → covers setup r (nth_worker setup.job l.receiver).node ≡ b
            → shown setup n (journal_at old l.receiver ++ cond (covers setup r (nth_worker setup.job
            l.receiver).node) (turn_entries setup r l.receiver) [])
            ≡ shown setup n (journal_at old l.receiver) ++ mark_on setup r l
        of_worker true z =
            ap (λ (b : Bool). shown setup n (journal_at old l.receiver ++ cond b (turn_entries setup
            r l.receiver) [])) z
            ∙ (shown-append setup n (journal_at old l.receiver) (turn_entries setup r l.receiver) ∙
            ap (λ (xs : List Item). shown setup n (journal_at old l.receiver) ++ xs) (turn_shown
            setup n l r g))
        of_worker false z =
            ap (λ (b : Bool). shown setup n (journal_at old l.receiver ++ cond b (turn_entries setup
            r l.receiver) [])) z
            ∙ (ap (shown setup n) (append-nil (journal_at old l.receiver))
            ∙ (sym (append-nil (shown setup n (journal_at old l.receiver)))
            ∙ ap (λ (xs : List Item). shown setup n (journal_at old l.receiver) ++ xs) (sym (no_mark
            (nth_worker setup.job l.receiver).node covered z))))

-- ---- all end

-- the last of the ends puts what all put
ends_sent : (setup : SetupView) (who : Worker) (l : Lane) (view : StateView) (n : ℕ) (ns : List ℕ) →
    view.ended + length (n ∷ ns) ≡ length (lanes_in setup.job who.number)
    → items_sent setup who view l (ended_all (n ∷ ns))
    ≡ items_on l (put_on_each item.Last (lanes_out setup.job who.number))
ends_sent setup who l view n [] h =
    let q : (view.ended + 1 == length (lanes_in setup.job who.number))
    ≡ true = eq-eqb (view.ended + 1) (length (lanes_in setup.job who.number)) (omega (
      arith,
      h,
    )) in
    append-nil (items_on l (puts setup who view (entry.Ended n)))
    ∙ ap (λ (b : Bool). items_on l (cond b (put_on_each item.Last (lanes_out setup.job
    who.number)) [])) q
ends_sent setup who l view n (m ∷ ns) h =
    let q : (view.ended + 1 == length (lanes_in setup.job who.number))
    ≡ false = ne_eqb (view.ended + 1) (length (lanes_in setup.job who.number)) (λ e. absurd
    (omega (arith, h, e))) in
    ap (λ (b : Bool). items_on l (cond b (put_on_each item.Last (lanes_out setup.job who.number))
    []) ++ items_sent setup who (after setup who view (entry.Ended n)) l (ended_all (m ∷ ns))) q
    ∙ ends_sent setup who l (after setup who view (entry.Ended n)) m ns (omega (arith, h))

end_shown : (setup : SetupView) (n : ℕ) (l : Lane) → slice_get (lanes setup.job) n ≡ Some l →
    shown setup n (end_block setup.job l.receiver) ≡ item.Last ∷ []
end_shown setup n l g =
    shown_one setup n (item.Last ∷ []) (λ (k : ℕ). entry.Ended k) (λ k. refl) (lanes_in setup.job
    l.receiver) (lanes_that-distinct (λ (lane : Lane). lane.receiver == l.receiver) setup.job)
    (lanes_that_in (λ (lane : Lane). lane.receiver == l.receiver) setup.job n l g (eq-eqb l.receiver
    l.receiver refl))

pub shown_ended : (setup : SetupView) (n : ℕ) (l : Lane) (old new : List Entry) →
    slice_get (lanes setup.job) n ≡ Some l → new ≡ old ++ end_block setup.job l.receiver →
    shown setup n new ≡ shown setup n old ++ item.Last ∷ []
shown_ended setup n l old new g e =
    ap (shown setup n) e ∙ (shown-append setup n old (end_block setup.job l.receiver)
    ∙ ap (λ (xs : List Item). shown setup n old ++ xs) (end_shown setup n l g))

pub sent_ended : (setup : SetupView) (n : ℕ) (l : Lane) (s : ℕ) (old new : List Entry) →
    AreCovering setup → slice_get (lanes setup.job) n ≡ Some l → l.sender ≡ Some s
    → (after_all setup (nth_worker setup.job s) (first_view setup (nth_worker setup.job s)) old).ended ≡ 0
    → new ≡ old ++ end_block setup.job s → sent_by setup l s new
    ≡ sent_by setup l s old ++ item.Last ∷ []
sent_ended setup n l s old new covering g e zero_ended grown =
    ap (sent_by setup l s) grown
    ∙ (sent-append setup (nth_worker setup.job s) (first_view setup (nth_worker setup.job s)) l old
    (end_block setup.job s)
    ∙ ap (λ (xs : List Item). sent_by setup l s old ++ xs) (some (lanes_in setup.job s) refl
    (covering.reached s by.below).0 (covering.reached s by.below).1 ∙ last))
  where
    by : IsSending setup.job l s
    by = is_sending setup.job n l s g e

    who : Worker
    who = nth_worker setup.job s

    here : StateView
    here = after_all setup who (first_view setup who) old

    some : (ns : List ℕ) → ns ≡ lanes_in setup.job s → (k : ℕ) → IsIn k ns →
        items_sent setup who here l (ended_all ns) ≡ items_on l (put_on_each item.Last (lanes_out
        setup.job who.number))
    some [] q k i = absurd i
    some (m ∷ ns) q k i =
        ends_sent setup who l here m ns (let a = ap (length {A = ℕ}) q in let b : length (lanes_in
        setup.job who.number) ≡ length (lanes_in setup.job s) = ap (λ (v : ℕ). length (lanes_in
        setup.job v)) by.number_is in omega (arith, zero_ended, a, b))

    last : items_on l (put_on_each item.Last (lanes_out setup.job who.number)) ≡ item.Last ∷ []
    last =
        one_on item.Last l (lanes_out setup.job who.number) (out_distinct setup.job who.number)
        (subst (λ (v : ℕ). IsIn l (lanes_out setup.job v)) (sym by.number_is) (goes_out setup.job n
        l s g e))
