-- How journals are restored, worker after worker.
use Rattle.std.proofs.Common.{◌≡◌, ◌≢◌, ◌∙◌, ◌<◌, ◌≤◌, ◌+◌, ◌==◌, ◌⊎◌, ℕ, List, [], inl, inr, refl, sym, ap, ap₂, subst, arith, length, Option, Some, None, slice_get}
use Rattle.std.specs.FinMap.{empty}
use Rattle.std.proofs.lemmas.Bool.{cases_lt, eqb-true}
use Rattle.std.proofs.lemmas.List.{length-set}
use Rattle.std.proofs.lemmas.Option.{same_Some, slice_get-get_or, slice_get_within}
use Rattle.flow_dag.specs.Dag.{DagView}
use Rattle.flow_dag.specs.Order.{place_of}
use Rattle.keyed_state.specs.Counts.{Counts}
use Rattle.sink_journal.specs.declared.journal.Entry.{Entry}
use Rattle.tuple_trace.specs.declared.row.Row.{Row}
use Rattle.tuple_trace.specs.declared.tuple.Item.{Item}
use Rattle.flow_model.specs.Begin.{Begin}
use Rattle.flow_model.specs.Lanes.{lanes, lanes_in}
use Rattle.flow_model.specs.declared.topology.Lane.{Lane}
use Rattle.flow_model.specs.SetupView.{SetupView, Worker}
use Rattle.flow_model.specs.Run.{final_counts, put_by, ran_as}
use Rattle.flow_model.specs.Duties.{duties}
use Rattle.flow_model.specs.Law.{initial}
use Rattle.flow_model.specs.Workers.{nth_worker, workers_in}
use Rattle.flow_model.proofs.ElementLemmas.{IsIn}
use Rattle.flow_model.proofs.JobLemmas.{IsConnected}
use Rattle.flow_model.proofs.LaneLemmas.{LaneIn, in_lanes_that, lane_into}
use Rattle.flow_model.proofs.WorkerLemmas.{worker_with}
use Rattle.flow_model.proofs.WorkerPlaces.{get-nth_worker, nth_worker-get}
use Rattle.audit_laws.specs.declared.audit.AuditEntry.{AuditEntry}
use Rattle.audit_fault.specs.declared.fault.AuditFault.{AuditFault}
use Rattle.audit_fault.specs.declared.fault.AuditFault.TheVariants as fault
use Rattle.audit_laws.specs.Delivered.{delivered, feed_of}
use Rattle.audit_laws.specs.Checked.{IsFinishedDraft, ShowsDelivered}
use Rattle.audit_laws.specs.Faults.{AreTrimmedFinished, AreItems, ComesBefore, HasBadLane, IsRestored}
use Rattle.audit_laws.specs.Restoring.{LanesAgree, delivered_by, delivered_on, items_taken, restored}
use Rattle.audit_laws.specs.Trimmed.{trimmed}
use Rattle.audit_laws.proofs.FaultLemmas.{order_forward}
use Rattle.audit_laws.proofs.RestoringLemmas.{ComeBy}
use Rattle.audit_laws.proofs.ConservedLemmas.{sender_stands}
use Rattle.audit_laws.proofs.WorkerLemmas.{come_by, worker_restored}
use Rattle.audit_check.proofs.TellingLemmas.{set_elsewhere, set_here}
use Rattle.flow_replay.specs.Sent.{begun_counts}
use Rattle.audit_restore.specs.Restored.{AgreeBelow, AllRestored, AreCounted, AreRestored, IsBadLane, IsAmongFirst, IsFaultOfLanes, IsLaneFault, IsOrder, IsReady, TookAndMade}
use Rattle.audit_restore.specs.Standing.{HoldsFeed, left_on}
use Rattle.audit_restore.specs.declared.restore.Restored.{Restored}
use Rattle.audit_restore.proofs.TakingLemmas.{untouched}
use Rattle.audit_restore.proofs.BringingLemmas.{delivered_elsewhere, delivered_here, by_others, restored_same}

-- ---- who comes before whom

not_before : (order : List ℕ) (a b : Worker) → ComesBefore order a b → ComesBefore order b a → ⊥
not_before order a b (inl x) (inl y) = absurd (omega (arith, x, y))
not_before order a b (inl x) (inr (node, y)) = absurd (omega (arith, x, ap (place_of order) node))
not_before order a b (inr (node, x)) (inl y) = absurd (omega (arith, y, ap (place_of order) node))
not_before order a b (inr (node, x)) (inr (other, y)) = absurd (omega (arith, x, y))

module _ (setup : SetupView) (dag : DagView) (connected : IsConnected setup.job) (edges : dag.edges ≡ setup.job.edges) (nodes : dag.nodes ≡ length setup.job.nodes) (workers : List ℕ) (is : IsOrder setup.job dag.order workers)
  where
    -- those that come before one are done before it
    done_before : (k w v : ℕ) → slice_get workers k ≡ Some w → v < length (workers_in setup.job) → ComesBefore dag.order (nth_worker setup.job v) (nth_worker setup.job w) → IsAmongFirst workers k v
    done_before k w v g lt before = go (is.all v lt)
      where
        go : (i : ℕ) × (slice_get workers i ≡ Some v) → IsAmongFirst workers k v
        go (i, at) = elim (cases_lt i k) [
          | inl less ↦ (i, less, at)
          | inr more ↦ elim (cases_lt k i) [
            | inl above ↦ absurd (not_before dag.order (nth_worker setup.job v) (nth_worker setup.job w) before (is.sorted k i w v g at above))
            | inr below ↦
                let same : k ≡ i = omega (arith, more, below) in
                let e : w ≡ v = same_Some w v (sym g ∙ (ap (slice_get workers) same ∙ at)) in
                let self = subst (λ x. ComesBefore dag.order (nth_worker setup.job v) (nth_worker setup.job x)) e before in
                absurd (not_before dag.order (nth_worker setup.job v) (nth_worker setup.job v) self self)
          ]
        ]

    pub not_done : (k w : ℕ) → slice_get workers k ≡ Some w → IsAmongFirst workers k w → ⊥
    not_done k w g (i, less, at) =
        let self = is.sorted i k w w at g less in
        not_before dag.order (nth_worker setup.job w) (nth_worker setup.job w) self self

    -- whoever sends to a worker comes before it
    sender_before : (n : ℕ) (lane : Lane) (w : ℕ) → slice_get (lanes setup.job) n ≡ Some lane → lane.receiver ≡ w → w < length (workers_in setup.job)
        → (lane.sender ≡ None) ⊎ ((s : ℕ) × (lane.sender ≡ Some s) × (s < length (workers_in setup.job)) × ComesBefore dag.order (nth_worker setup.job s) (nth_worker setup.job w))
    sender_before n lane w g r lt =
        let who = nth_worker setup.job w in
        let p : slice_get (workers_in setup.job) w ≡ Some who = get-nth_worker setup.job w lt in
        let here = worker_with setup.job w who p in
        let k : LaneIn setup.job who n = lane_into setup.job who n lane here.1 g (r ∙ sym here.0) in
        let one : k.lane ≡ lane = same_Some k.lane lane (sym k.numbered ∙ g) in
        let up = order_forward setup.job dag connected edges nodes k.lane.edge k.edge k.edge_is in
        elim (sender_stands setup.job k.edge.from k.lane.sender k.sends) [
          | inl none ↦ inl (ap (λ (l : Lane). l.sender) (sym one) ∙ none)
          | inr (q, number, there, node) ↦
              let q_is : nth_worker setup.job q.number ≡ q = nth_worker-get setup.job q.number q there in
              inr (
                q.number,
                ap (λ (l : Lane). l.sender) (sym one) ∙ number,
                slice_get_within (workers_in setup.job) q.number q there,
                inl (omega (arith, up, ap (place_of dag.order) node, ap (place_of dag.order) k.to, ap (λ (x : Worker). place_of dag.order x.node) q_is)),
              )
        ]

    -- so it is done before it
    pub sender_ready : (k : ℕ) (n : ℕ) (lane : Lane) (w : ℕ) → slice_get workers k ≡ Some w → slice_get (lanes setup.job) n ≡ Some lane → lane.receiver ≡ w → w < length (workers_in setup.job) → IsReady workers k lane.sender
    sender_ready k n lane w at g r lt = elim (sender_before n lane w g r lt) [
      | inl none ↦ subst (IsReady workers k) (sym none) tt
      | inr (s, some, within, before) ↦ subst (IsReady workers k) (sym some) (done_before k w s at within before)
    ]

    -- and it is another
    pub other_sender : (k : ℕ) (n : ℕ) (lane : Lane) (w v : ℕ) → slice_get workers k ≡ Some w → slice_get (lanes setup.job) n ≡ Some lane → lane.receiver ≡ v → v < length (workers_in setup.job)
        → (IsAmongFirst workers k v) ⊎ (v ≡ w) → lane.sender ≡ Some w → ⊥
    other_sender k n lane w v at g r lt (inl (i, less, there)) sends =
        let ready = subst (IsReady workers i) sends (sender_ready i n lane v there g r lt) in
        not_done k w at (ready.0, (let l = ready.1 in omega (arith, l, less)), ready.2)
    other_sender k n lane w v at g r lt (inr same) sends =
        let ready = subst (IsReady workers k) sends (sender_ready k n lane w at g (r ∙ same) (omega (arith, lt, same))) in
        not_done k w at ready

    -- ---- one worker more

    module _ (begin : Begin) (starts : length begin.states ≡ length (workers_in setup.job)) (rows : List Row) (audit : List (List AuditEntry)) (finished : AreTrimmedFinished begin setup rows audit) (k w : ℕ) (at : slice_get workers k ≡ Some w) (t : List AuditEntry)
        (there : slice_get audit w ≡ Some t) (old new : Restored) (before after : List (List Item)) (far : AreRestored begin setup rows audit workers k old.journals old.states before)
        (agree : AgreeBelow setup before w t (length (lanes setup.job)))
      where
        within : w < length (workers_in setup.job)
        within = is.within k w at

        who : Worker
        who = nth_worker setup.job w

        works : slice_get (workers_in setup.job) w ≡ Some (nth_worker setup.job w)
        works = get-nth_worker setup.job w within

        begun : slice_get begin.states w ≡ Some (begun_counts begin w)
        begun = slice_get-get_or begin.states w empty (let lt = within in omega (arith, lt, starts))

        law : IsFinishedDraft begin setup rows (nth_worker setup.job w) t
        law = finished w (nth_worker setup.job w) t works there

        come : ComeBy (lanes_in setup.job w) t
        come =
            subst (λ v. ComeBy (lanes_in setup.job v) t) (worker_with setup.job w (nth_worker setup.job w) works).0
            (come_by setup begin.turned (feed_of begin setup rows) (nth_worker setup.job w) (initial (duties setup begin.turned (nth_worker setup.job w))) t law.lawful.execution)

        brings : (n : ℕ) (lane : Lane) → slice_get (lanes setup.job) n ≡ Some lane → lane.receiver ≡ w → delivered begin setup rows old.journals lane ≡ Some (left_on before n)
        brings n lane g r = far.brings n lane g (sender_ready k n lane w at g r within) (λ done. not_done k w at (subst (IsAmongFirst workers k) r done))

        agrees : LanesAgree begin setup rows old.journals w t
        agrees n lane g r = (left_on before n, brings n lane g r, agree n lane (slice_get_within (lanes setup.job) n lane g) g r)

        same : restored (left_on before) t ≡ restored (delivered_on begin setup rows old.journals) t
        same = restored_same (lanes_in setup.job w) (left_on before) (delivered_on begin setup rows old.journals) t come (λ n i. go n i)
          where
            go : (n : ℕ) → IsIn n (lanes_in setup.job w) → left_on before n ≡ delivered_on begin setup rows old.journals n
            go n i =
                let l = in_lanes_that (λ (lane : Lane). lane.receiver == w) setup.job n i in
                sym (ap (delivered_by begin setup rows old.journals) l.1 ∙ ap items_taken (brings n l.0 l.1 (eqb-true l.0.receiver w l.2)))

        whole : (trimmed (restored (left_on before) t) ≡ t) × ShowsDelivered begin setup rows old.journals w (restored (left_on before) t)
        whole =
            subst (λ (x : List Entry). (trimmed x ≡ t) × ShowsDelivered begin setup rows old.journals w x) (sym same)
            (worker_restored begin setup rows old.journals w (nth_worker setup.job w) t works law agrees)

        -- what is done now was done before, or is this worker
        done_cases : (v : ℕ) → IsAmongFirst workers (k + 1) v → IsAmongFirst workers k v ⊎ (v ≡ w)
        done_cases v (i, less, here) = elim (cases_lt i k) [
          | inl lt ↦ inl (i, lt, here)
          | inr ge ↦ let e : i ≡ k = omega (arith, less, ge) in inr (same_Some v w (sym here ∙ (ap (slice_get workers) e ∙ at)))
        ]

        this_done : IsAmongFirst workers (k + 1) w
        this_done = (k, omega arith, at)

        still_done : (v : ℕ) → IsAmongFirst workers k v → IsAmongFirst workers (k + 1) v
        still_done v (i, less, here) = (i, omega (arith, less), here)

        module _ (taken : TookAndMade begin setup w t old new before after)
          where
            journals_at : (v : ℕ) → v ≢ w → slice_get new.journals v ≡ slice_get old.journals v
            journals_at v ne = ap (λ (l : List (List Entry)). slice_get l v) taken.journals ∙ set_elsewhere old.journals v w (restored (left_on before) t) ne

            journal_here : slice_get new.journals w ≡ Some (restored (left_on before) t)
            journal_here =
                ap (λ (l : List (List Entry)). slice_get l w) taken.journals
                ∙ set_here old.journals w (restored (left_on before) t) (let long = far.journals_long in let lt = within in omega (arith, long, lt))

            brings_same : (lane : Lane) → (lane.sender ≡ Some w → ⊥) → delivered begin setup rows new.journals lane ≡ delivered begin setup rows old.journals lane
            brings_same lane ne =
                ap (λ (l : List (List Entry)). delivered begin setup rows l lane) taken.journals ∙ delivered_elsewhere begin setup rows old.journals w (restored (left_on before) t) lane ne

            restored_now : (v : ℕ) → IsAmongFirst workers (k + 1) v → IsRestored begin setup rows audit new.journals v
            restored_now v done = go (done_cases v done)
              where
                lt : v < length (workers_in setup.job)
                lt = is.within done.0 v done.2

                go : IsAmongFirst workers k v ⊎ (v ≡ w) → IsRestored begin setup rows audit new.journals v
                go (inl was) =
                    let r = far.restored v was in
                    let apart : v ≢ w = λ e. not_done k w at (subst (IsAmongFirst workers k) e was) in
                    record {
                      journal = r.journal;
                      there = journals_at v apart ∙ r.there;
                      kept_there = r.kept_there;
                      shows = λ n lane g e. brings_same lane (other_sender k n lane w v at g e lt (inl was)) ∙ r.shows n lane g e;
                    }
                go (inr e) = record {
                  journal = restored (left_on before) t;
                  there = ap (slice_get new.journals) e ∙ journal_here;
                  kept_there = ap (slice_get audit) e ∙ (there ∙ ap Some (sym whole.0));
                  shows = λ n lane g r. brings_same lane (other_sender k n lane w v at g r lt (inr e)) ∙ whole.1 n lane g (r ∙ e);
                }

            counted_now : AreCounted begin setup new.journals new.states (IsAmongFirst workers (k + 1))
            counted_now v p at_start journal done q b j = go (done_cases v done)
              where
                go : IsAmongFirst workers k v ⊎ (v ≡ w) → slice_get new.states v ≡ Some (final_counts setup begin p at_start journal)
                go (inl was) =
                    let apart : v ≢ w = λ e. not_done k w at (subst (IsAmongFirst workers k) e was) in
                    ap (λ (l : List Counts). slice_get l v) taken.states
                    ∙ (set_elsewhere old.states v w (final_counts setup begin (nth_worker setup.job w) (begun_counts begin w) (restored (left_on before) t)) apart
                    ∙ far.counted v p at_start journal was q b (sym (journals_at v apart) ∙ j))
                go (inr e) =
                    let p_is : nth_worker setup.job w ≡ p = same_Some (nth_worker setup.job w) p (sym works ∙ (ap (slice_get (workers_in setup.job)) (sym e) ∙ q)) in
                    let j_is : restored (left_on before) t ≡ journal = same_Some (restored (left_on before) t) journal (sym journal_here ∙ (ap (slice_get new.journals) (sym e) ∙ j)) in
                    let c_is : begun_counts begin w ≡ at_start = same_Some (begun_counts begin w) at_start (sym begun ∙ (ap (slice_get begin.states) (sym e) ∙ b)) in
                    ap (slice_get new.states) e
                    ∙ (ap (λ (l : List Counts). slice_get l w) taken.states
                    ∙ (set_here old.states w (final_counts setup begin (nth_worker setup.job w) (begun_counts begin w) (restored (left_on before) t)) (let long = far.states_long in let lt = within in omega (arith, long, lt))
                    ∙ (ap (λ (c : Counts). Some (final_counts setup begin (nth_worker setup.job w) c (restored (left_on before) t))) c_is
                    ∙ ap₂ (λ (x : Worker) (l : List Entry). Some (final_counts setup begin x at_start l)) p_is j_is)))

            brings_now : (n : ℕ) (lane : Lane) → slice_get (lanes setup.job) n ≡ Some lane → IsReady workers (k + 1) lane.sender → (IsAmongFirst workers (k + 1) lane.receiver → ⊥)
                → delivered begin setup rows new.journals lane ≡ Some (left_on after n)
            brings_now n lane g ready waits = by_sender lane.sender refl ready
              where
                elsewhere : lane.receiver ≢ w
                elsewhere e = waits (subst (IsAmongFirst workers (k + 1)) (sym e) this_done)

                no_lane_in : IsIn n (lanes_in setup.job w) → ⊥
                no_lane_in i =
                    let l = in_lanes_that (λ (l : Lane). l.receiver == w) setup.job n i in
                    elsewhere (ap (λ (x : Lane). x.receiver) (same_Some lane l.0 (sym g ∙ l.1)) ∙ eqb-true l.0.receiver w l.2)

                untaken : (lane.sender ≡ Some w → ⊥) → left_on after n ≡ left_on before n
                untaken ne = taken.others n lane g ne ∙ untouched (left_on before) t n (by_others (lanes_in setup.job w) t n come no_lane_in)

                was : IsReady workers k lane.sender → (lane.sender ≡ Some w → ⊥) → delivered begin setup rows new.journals lane ≡ Some (left_on after n)
                was ready ne =
                    brings_same lane ne ∙ (far.brings n lane g ready (λ done. waits (still_done lane.receiver done)) ∙ ap Some (sym (untaken ne)))

                by_sender : (o : Option ℕ) → lane.sender ≡ o → IsReady workers (k + 1) o → delivered begin setup rows new.journals lane ≡ Some (left_on after n)
                by_sender None e ready = was (subst (IsReady workers k) (sym e) tt) (λ s. let f = sym e ∙ s in absurd (cc))
                by_sender (Some s) e done = elim (done_cases s done) [
                  | inl early ↦ was (subst (IsReady workers k) (sym e) early) (λ q.
                      let f : s ≡ w = same_Some s w (sym e ∙ q) in not_done k w at (subst (IsAmongFirst workers k) f early))
                  | inr here ↦
                      let sends : lane.sender ≡ Some w = e ∙ ap Some here in
                      delivered_here begin setup rows new.journals w (nth_worker setup.job w) (begun_counts begin w) (restored (left_on before) t) lane works begun journal_here sends ∙ ap Some (sym (taken.out n lane g sends))
                ]

            pub one_more : AreRestored begin setup rows audit workers (k + 1) new.journals new.states after
            one_more = record {
              journals_long = ap length taken.journals ∙ (length-set old.journals w (restored (left_on before) t) ∙ far.journals_long);
              states_long =
                  ap length taken.states
                  ∙ (length-set old.states w (final_counts setup begin (nth_worker setup.job w) (begun_counts begin w) (restored (left_on before) t)) ∙ far.states_long);
              standing_long = taken.long ∙ far.standing_long;
              restored = restored_now;
              counted = counted_now;
              brings = brings_now;
            }

    -- a bad lane
    pub bad_lane : (begin : Begin) (rows : List Row) (audit : List (List AuditEntry)) (k w n : ℕ) → slice_get workers k ≡ Some w → (t : List AuditEntry) → slice_get audit w ≡ Some t
        → (journals : List (List Entry)) (states : List Counts) (standing : List (List Item)) → AreRestored begin setup rows audit workers k journals states standing → IsBadLane setup standing w t n
        → HasBadLane begin setup dag.order rows audit n
    bad_lane begin rows audit k w n at t there journals states standing far bad =
        let within = is.within k w at in
        let works = get-nth_worker setup.job w within in
        record {
          journals = journals;
          lane = bad.lane;
          lane_is = bad.lane_is;
          who = nth_worker setup.job w;
          receives = ap (slice_get (workers_in setup.job)) bad.receives ∙ works;
          restored = λ v p q before.
              let p_is : nth_worker setup.job v ≡ p = nth_worker-get setup.job v p q in
              far.restored v (done_before k w v at (slice_get_within (workers_in setup.job) v p q) (subst (λ (x : Worker). ComesBefore dag.order x (nth_worker setup.job w)) (sym p_is) before));
          items = left_on standing n;
          brings = brings n bad.lane bad.lane_is bad.receives within;
          journal = t;
          there = ap (slice_get audit) bad.receives ∙ there;
          differ = bad.differ;
          least = λ j other less g r items journal b a.
              let receives : other.receiver ≡ w = r ∙ bad.receives in
              let items_are : left_on standing j ≡ items = same_Some (left_on standing j) items (sym (brings j other g receives within) ∙ b) in
              let journal_is : t ≡ journal = same_Some t journal (sym there ∙ (ap (slice_get audit) (sym receives) ∙ a)) in
              subst (λ (x : List Item). AreItems j x journal) items_are (subst (AreItems j (left_on standing j)) journal_is (bad.least j other less g receives));
        }
      where
        brings : (n : ℕ) (lane : Lane) → slice_get (lanes setup.job) n ≡ Some lane → lane.receiver ≡ w → w < length (workers_in setup.job) → delivered begin setup rows journals lane ≡ Some (left_on standing n)
        brings n lane g r within = far.brings n lane g (sender_ready k n lane w at g r within) (λ done. not_done k w at (subst (IsAmongFirst workers k) r done))

    pub lane_fault : (begin : Begin) (rows : List Row) (audit : List (List AuditEntry)) (k w : ℕ) → slice_get workers k ≡ Some w → (t : List AuditEntry) → slice_get audit w ≡ Some t
        → (journals : List (List Entry)) (states : List Counts) (standing : List (List Item)) → AreRestored begin setup rows audit workers k journals states standing → (f : AuditFault) → IsLaneFault setup standing w t f
        → IsFaultOfLanes begin setup dag.order rows audit f
    lane_fault begin rows audit k w at t there journals states standing far (fault.Shape i) bad = bad
    lane_fault begin rows audit k w at t there journals states standing far (fault.Refused i) bad = bad
    lane_fault begin rows audit k w at t there journals states standing far (fault.Feed i) bad = bad
    lane_fault begin rows audit k w at t there journals states standing far (fault.Law i) bad = bad
    lane_fault begin rows audit k w at t there journals states standing far (fault.Lane n) bad = bad_lane begin rows audit k w n at t there journals states standing far bad
    lane_fault begin rows audit k w at t there journals states standing far (fault.State i) bad = bad
    lane_fault begin rows audit k w at t there journals states standing far fault.NoMemory bad = tt

    -- ---- all workers

    pub nothing_done : (begin : Begin) (rows : List Row) (audit : List (List AuditEntry)) (journals : List (List Entry)) (states : List Counts) (standing : List (List Item))
        → length journals ≡ length (workers_in setup.job) → length states ≡ length (workers_in setup.job) → HoldsFeed setup.job rows begin.turned (feed_of begin setup rows) standing
        → AreRestored begin setup rows audit workers 0 journals states standing
    nothing_done begin rows audit journals states standing j s holds = record {
      journals_long = j;
      states_long = s;
      standing_long = holds.long;
      restored = λ w done. let lt = done.1 in absurd (omega (arith, lt));
      counted = λ w p counts journal done q b h. let lt = done.1 in absurd (omega (arith, lt));
      brings = λ n lane g ready waits. by_sender n lane g lane.sender refl ready;
    }
      where
        by_sender : (n : ℕ) (lane : Lane) → slice_get (lanes setup.job) n ≡ Some lane → (o : Option ℕ) → lane.sender ≡ o → IsReady workers 0 o → delivered begin setup rows journals lane ≡ Some (left_on standing n)
        by_sender n lane g None e ready =
            ap (put_by begin rows (ran_as setup (feed_of begin setup rows) journals []) lane) e ∙ ap Some (sym (holds.each n lane g e))
        by_sender n lane g (Some s) e done = let lt = done.1 in absurd (omega (arith, lt))

    pub all_done : (begin : Begin) (rows : List Row) (audit : List (List AuditEntry)) (k : ℕ) (journals : List (List Entry)) (states : List Counts) (standing : List (List Item)) → length workers ≤ k
        → AreRestored begin setup rows audit workers k journals states standing → AllRestored begin setup rows audit journals states
    all_done begin rows audit k journals states standing past far = record {
      journals_long = far.journals_long;
      states_long = far.states_long;
      restored = λ w lt. far.restored w (done w lt);
      counted = λ w p counts journal lt q b j. far.counted w p counts journal (done w lt) q b j;
    }
      where
        done : (w : ℕ) → w < length (workers_in setup.job) → IsAmongFirst workers k w
        done w lt = let i = is.all w lt in (i.0, (let s = slice_get_within workers i.0 w i.1 in omega (arith, s, past)), i.1)
