-- The end of all lanes keeps the law.
use Rattle.std.proofs.Common.{◌≡◌, ◌∙◌, ◌==◌, ℕ, ◌+◌, ◌<◌, List, [], ◌∷◌, ◌++◌, inl, inr, Bool, true, false, cond, map, length, refl, sym, ap, subst, arith, Some, None, slice_get, append_assoc, append-nil}
use Rattle.std.specs.Prelude.{Contains}
use Rattle.std.proofs.lemmas.List.{length-map}
use Rattle.std.proofs.lemmas.Bool.{eq-eqb, eqb-true}
use Rattle.std.proofs.lemmas.Bool.Decides.{nat_tests}
use Rattle.marker_align.specs.declared.held.Hand.TheVariants.{Empty, Holds}
use Rattle.sink_journal.specs.declared.journal.Entry.{Entry}
use Rattle.tuple_trace.specs.declared.tuple.Item.{Item}
use Rattle.tuple_trace.specs.declared.tuple.Item.TheVariants.{Last}
use Rattle.flow_model.specs.Begin.{Begin, view_at}
use Rattle.flow_model.specs.Lanes.{lanes, lanes_in, lanes_out}
use Rattle.flow_model.specs.Law.{IsExecution, Progress, Duties, initial, progress_after}
use Rattle.flow_model.specs.declared.topology.Lane.{Lane}
use Rattle.flow_model.specs.SetupView.{SetupView, Worker as WorkerOf}
use Rattle.flow_model.specs.Points.{turned}
use Rattle.flow_model.specs.Replay.{StateView, after_all, items_on, put_on_each, items_sent, shown}
use Rattle.flow_model.specs.Run.{IsFinishedFrom, IsLawfulFrom}
use Rattle.flow_model.specs.Duties.{duties}
use Rattle.flow_model.proofs.ElementLemmas.{AreDistinct, IsIn, all_of_at, contains_of_in, in_of_contains, map_in}
use Rattle.flow_model.proofs.EndLemmas.{ended_counts}
use Rattle.flow_model.proofs.JournalLemmas.{IsExecution-append, after_all-append, progress_after-append, sent-append, shown-append}
use Rattle.flow_worker.specs.Pairs.{EachOne}
use Rattle.flow_worker.specs.Endpoints.{Gains, LaneInIs, IsSteadyIn, LaneOutIs, in_hand, planned}
use Rattle.flow_model.specs.Dues.{AreDues}
use Rattle.flow_model.proofs.OutLanes.{one_on, out_distinct}
use Rattle.flow_worker.specs.Worker.{IsEndpointIn, IsPlaced, IsWorker, Sends, ShowsTaken, WorkerIs, edges_of, view_now, lane_numbers_in, progress_now, HasTakenIn}
use Rattle.flow_worker.specs.Steps.{HasClosed, all_emptied, ended_entries}
use Rattle.flow_worker.proofs.Pairs.{each_both, each_of, pairs_each}
use Rattle.flow_worker.proofs.Marking.{self_test, turned-append}
use Rattle.flow_worker.proofs.PlaceLemmas.{ins_distinct, number_is, out_sends}
use Rattle.flow_worker.proofs.Steadying.{KeepsSteady, steady_by}
use Rattle.flow_worker.proofs.TurnLaw.{end_emptied, outs_gain}

-- ---- the ends and the law

ends_follow : (st : Duties) (p : Progress) (ins : List LaneInIs) → p.dues ≡ [] → p.marked ≡ [] → EachOne (λ (a : LaneInIs). IsIn a.number st.lanes) ins → AreDistinct (lane_numbers_in ins)
    → ((n : ℕ) → IsIn n p.ended → ¬ IsIn n (lane_numbers_in ins)) → IsExecution st p (ended_entries ins)
ends_follow st p [] u m e d f = tt
ends_follow st p (a ∷ more) u m e d f = (
  (contains_of_in a.number st.lanes e.0, (λ k. f a.number (in_of_contains a.number p.ended k) (inl refl)), u, m),
  ends_follow st (record p { ended = a.number ∷ p.ended }) more u m e.1 d.1
      (λ k j l. elim j [ inl q ↦ d.0 (subst (λ x. IsIn x (lane_numbers_in more)) q l) | inr q ↦ f k q (inr l) ]),
)

abbrev ended_onto : List LaneInIs → List ℕ → List ℕ
ended_onto [] m = m
ended_onto (a ∷ more) m = ended_onto more (a.number ∷ m)

progress_ends : (p : Progress) (ins : List LaneInIs) → progress_after p (ended_entries ins) ≡ record p { ended = ended_onto ins p.ended }
progress_ends p [] = refl
progress_ends p (a ∷ more) = progress_ends (record p { ended = a.number ∷ p.ended }) more

stays_onto : (n : ℕ) (ins : List LaneInIs) (m : List ℕ) → IsIn n m → IsIn n (ended_onto ins m)
stays_onto n [] m h = h
stays_onto n (a ∷ more) m h = stays_onto n more (a.number ∷ m) (inr h)

comes_onto : (n : ℕ) (ins : List LaneInIs) (m : List ℕ) → IsIn n (lane_numbers_in ins) → IsIn n (ended_onto ins m)
comes_onto n [] m h = absurd h
comes_onto n (a ∷ more) m (inl e) = stays_onto n more (a.number ∷ m) (inl e)
comes_onto n (a ∷ more) m (inr h) = comes_onto n more (a.number ∷ m) h

-- ---- the ends and the replay

view_ends : (setup : SetupView) (who : WorkerOf) (view : StateView) (ins : List LaneInIs) → after_all setup who view (ended_entries ins) ≡ record view { ended = view.ended + length ins }
view_ends setup who view [] = ap (λ n. record view { ended = n }) (omega arith)
view_ends setup who view (a ∷ more) = view_ends setup who (record view { ended = view.ended + 1 }) more ∙ ap (λ n. record view { ended = n }) (omega arith)

-- the last of the ends puts an end on each lane out, the others put nothing
sent_ends : (setup : SetupView) (who : WorkerOf) (lane : Lane) (view : StateView) (ins : List LaneInIs) → IsIn lane (lanes_out setup.job who.number) → 0 < length ins
    → view.ended + length ins ≡ length (lanes_in setup.job who.number) → items_sent setup who view lane (ended_entries ins) ≡ Last ∷ []
sent_ends setup who lane view [] i l e = absurd (omega arith)
sent_ends setup who lane view (a ∷ []) i l e =
    let t : (view.ended + 1 == length (lanes_in setup.job who.number)) ≡ true = eq-eqb (view.ended + 1) (length (lanes_in setup.job who.number)) (omega arith) in
    rw t (append-nil (items_on lane (put_on_each Last (lanes_out setup.job who.number))) ∙ one_on Last lane (lanes_out setup.job who.number) (out_distinct setup.job who.number) i)
sent_ends setup who lane view (a ∷ b ∷ more) i l e =
    let t : (view.ended + 1 == length (lanes_in setup.job who.number)) ≡ false = let k : view.ended + 1 < length (lanes_in setup.job who.number) = omega arith in grind (arith, nat_tests) in
    rw t (sent_ends setup who lane (record view { ended = view.ended + 1 }) (b ∷ more) i (omega arith) (omega (arith, e)))

-- ---- what the ends show

shown_no_end : (setup : SetupView) (n : ℕ) (ins : List LaneInIs) → ¬ IsIn n (lane_numbers_in ins) → shown setup n (ended_entries ins) ≡ []
shown_no_end setup n [] f = refl
shown_no_end setup n (a ∷ more) f = go (a.number == n) refl (shown_no_end setup n more (λ h. f (inr h)))
  where
    go : (b : Bool) → (a.number == n) ≡ b → shown setup n (ended_entries more) ≡ [] → cond b (Last ∷ []) [] ++ shown setup n (ended_entries more) ≡ []
    go true e h = absurd (f (inl (sym (eqb-true a.number n e))))
    go false e h = h

shown_end : (setup : SetupView) (n : ℕ) (ins : List LaneInIs) → AreDistinct (lane_numbers_in ins) → IsIn n (lane_numbers_in ins) → shown setup n (ended_entries ins) ≡ Last ∷ []
shown_end setup n [] d i = absurd i
shown_end setup n (a ∷ more) d (inl e) =
    subst (λ x. shown setup x (ended_entries (a ∷ more)) ≡ Last ∷ []) (sym e) (rw (self_test a.number) (ap (λ xs. Last ∷ xs) (shown_no_end setup a.number more d.0)))
shown_end setup n (a ∷ more) d (inr i) = go (a.number == n) refl (shown_end setup n more d.1 i)
  where
    go : (b : Bool) → (a.number == n) ≡ b → shown setup n (ended_entries more) ≡ Last ∷ [] → cond b (Last ∷ []) [] ++ shown setup n (ended_entries more) ≡ Last ∷ []
    go true e h = absurd (d.0 (subst (λ x. IsIn x (lane_numbers_in more)) (sym (eqb-true a.number n e)) i))
    go false e h = h

takes_ended : (setup : SetupView) (journal later : List Entry) (ins : List LaneInIs) → EachOne (λ (a : LaneInIs). shown setup a.number later ≡ shown setup a.number journal ++ Last ∷ []) ins
    → EachOne (λ (a : LaneInIs). a.hand ≡ Holds Last) ins → EachOne (ShowsTaken setup journal) ins → EachOne (ShowsTaken setup later) (all_emptied ins)
takes_ended setup journal later [] f l e = tt
takes_ended setup journal later (a ∷ more) f l e =
    (e.0 ∙ (ap (λ x. shown setup a.number journal ++ in_hand x) l.0 ∙ (sym f.0 ∙ sym (append-nil (shown setup a.number later)))), takes_ended setup journal later more f.1 l.1 e.1)

mapped_ended : {B : Type 0} (f : LaneInIs → B) (ins : List LaneInIs) → ((a : LaneInIs) → f (record a { hand = Empty }) ≡ f a) → map f (all_emptied ins) ≡ map f ins
mapped_ended f [] same = refl
mapped_ended f (a ∷ more) same = let e = same a in let r = mapped_ended f more same in cc

each_ended : (P : LaneInIs → Type 0) (ins : List LaneInIs) → ((a : LaneInIs) → P a → P (record a { hand = Empty })) → EachOne P ins → EachOne P (all_emptied ins)
each_ended P [] f e = tt
each_ended P (a ∷ more) f e = (f a e.0, each_ended P more f e.1)

all_empty : (ins : List LaneInIs) → EachOne (λ (a : LaneInIs). a.hand ≡ Empty) (all_emptied ins)
all_empty [] = tt
all_empty (a ∷ more) = (refl, all_empty more)

turned_ended : (ins : List LaneInIs) → turned (ended_entries ins) ≡ []
turned_ended [] = refl
turned_ended (a ∷ more) = turned_ended more

-- ---- the law

module _ (setup : SetupView) (begin : Begin) (keeps : KeepsSteady setup) (w v : WorkerIs) (h : IsWorker setup begin w) (open_ : w.closed ≡ false) (no_due : w.due ≡ None)
    (lasts : EachOne (λ (a : LaneInIs). a.hand ≡ Holds Last) w.ins) (t : HasClosed w v)
  where
    abbrev st : Duties
    st = duties setup begin.turned h.who

    abbrev new : List Entry
    new = ended_entries w.ins

    abbrev longer : List Entry
    longer = w.journal ++ new

    abbrev progress : Progress
    progress = progress_now setup begin h.who w.journal

    abbrev first : StateView
    first = view_at setup begin.turned h.who h.begun

    abbrev view : StateView
    view = view_now setup begin h.who h.begun w.journal

    abbrev ends_only : LaneOutIs → List Item
    ends_only out = Last ∷ []

    number : h.who.number ≡ w.number
    number = number_is setup h.who w h.placed

    distinct : AreDistinct (lane_numbers_in w.ins)
    distinct = ins_distinct setup h.who w h.placed

    lanes_are : lane_numbers_in w.ins ≡ st.lanes
    lanes_are = h.placed.ins.are ∙ ap (lanes_in setup.job) (sym number)

    follows : IsExecution st progress new
    follows = ends_follow st progress w.ins (subst (AreDues setup w.node progress.dues) no_due h.due.dues_are) h.lawful.no_open_turn
        (subst (λ (ns : List ℕ). EachOne (λ (a : LaneInIs). IsIn a.number ns) w.ins) lanes_are (each_of (λ (a : LaneInIs). IsIn a.number (lane_numbers_in w.ins)) w.ins (λ a i. map_in (λ (a : LaneInIs). a.number) a w.ins i)))
        distinct (λ k i. absurd (subst (IsIn k) (h.closing.unended open_) i))

    stands : progress_now setup begin h.who longer ≡ record progress { ended = ended_onto w.ins progress.ended }
    stands = progress_after-append (initial st) w.journal new ∙ progress_ends progress w.ins

    longer_lawful : IsLawfulFrom setup begin h.who longer
    longer_lawful = record {
      execution = (IsExecution-append st (initial st) w.journal new).1 (h.lawful.execution, follows);
      no_open_turn = ap (λ (p : Progress). p.marked) stands ∙ h.lawful.no_open_turn;
    }

    longer_finished : IsFinishedFrom setup begin h.who longer
    longer_finished = record {
      lawful = longer_lawful;
      ended = rw stands (all_of_at (Contains (ended_onto w.ins progress.ended)) st.lanes
          (λ n i. contains_of_in n (ended_onto w.ins progress.ended) (comes_onto n w.ins progress.ended (subst (IsIn n) (sym lanes_are) i))));
    }

    longer_view : view_now setup begin h.who h.begun longer ≡ record view { ended = view.ended + length w.ins }
    longer_view = after_all-append setup h.who first w.journal new ∙ view_ends setup h.who view w.ins

    none_ended : view.ended ≡ 0
    none_ended =
        let c : view.ended + 0 ≡ 0 + length progress.ended = ended_counts setup h.who first (initial st) w.journal in
        let z : length progress.ended ≡ 0 = ap length (h.closing.unended open_) in
        omega arith

    longer_sent : (lane : Lane) → IsIn lane (lanes_out setup.job h.who.number) → items_sent setup h.who first lane longer ≡ items_sent setup h.who first lane w.journal ++ Last ∷ []
    longer_sent lane i =
        sent-append setup h.who first lane w.journal new
        ∙ ap (λ xs. items_sent setup h.who first lane w.journal ++ xs)
        (sent_ends setup h.who lane view w.ins i (let s = h.placed.ins.some in omega arith)
        (let long : length w.ins ≡ length st.lanes = sym (length-map w.ins (λ (a : LaneInIs). a.number)) ∙ ap length lanes_are in omega (arith, none_ended, long)))

    sends_end : (a b : LaneOutIs) → Gains ends_only a b → Sends setup begin h.who h.begun w.journal a × IsIn a w.outs → Sends setup begin h.who h.begun longer b
    sends_end a b e q lane g =
        let here : slice_get (lanes setup.job) a.number ≡ Some lane = subst (λ (o : LaneOutIs). slice_get (lanes setup.job) o.number ≡ Some lane) e g in
        ap planned e
        ∙ (sym (append_assoc a.sent a.waiting (Last ∷ []))
        ∙ (ap (λ xs. xs ++ Last ∷ []) (q.0 lane here) ∙ sym (longer_sent lane (out_sends setup h.who w h.placed a q.1 lane here))))

    shows : EachOne (λ (a : LaneInIs). shown setup a.number longer ≡ shown setup a.number w.journal ++ Last ∷ []) w.ins
    shows = each_of (λ (a : LaneInIs). shown setup a.number longer ≡ shown setup a.number w.journal ++ Last ∷ []) w.ins
        (λ a i. shown-append setup a.number w.journal new ∙ ap (λ xs. shown setup a.number w.journal ++ xs) (shown_end setup a.number w.ins distinct (map_in (λ (a : LaneInIs). a.number) a w.ins i)))

    pub keeps_close : IsWorker setup begin v
    keeps_close =
        let k = h.placed in
        let numbers : lane_numbers_in v.ins ≡ lane_numbers_in w.ins = rw t.ins (mapped_ended (λ (a : LaneInIs). a.number) w.ins (λ a. refl)) in
        let edges : edges_of v.ins ≡ edges_of w.ins = rw t.ins (mapped_ended (λ (a : LaneInIs). a.edge) w.ins (λ a. refl)) in
        let taken : HasTakenIn setup v.journal v.ins = record {
          takes = rw (t.journal, t.ins) (takes_ended setup w.journal longer w.ins shows lasts h.taken.takes);
          steady = rw t.ins (each_ended IsSteadyIn w.ins (λ a q. q) h.taken.steady);
        } in
        let lawful : IsLawfulFrom setup begin h.who v.journal = rw t.journal longer_lawful in
        let long : length v.ins ≡ length w.ins = rw t.ins (length-map w.ins (λ (a : LaneInIs). record a { hand = Empty })) in
        let sends : EachOne (Sends setup begin h.who h.begun v.journal) v.outs = rw t.journal
        (pairs_each (Gains ends_only) (λ o. Sends setup begin h.who h.begun w.journal o × IsIn o w.outs) (Sends setup begin h.who h.begun longer) w.outs v.outs sends_end t.outs
        (each_both (Sends setup begin h.who h.begun w.journal) (λ o. IsIn o w.outs) w.outs h.sent.sends (each_of (λ o. IsIn o w.outs) w.outs (λ o i. i)))) in
        let placed : IsPlaced setup h.who v = subst (IsPlaced setup h.who) (sym t.rest) (record {
          stands = k.stands;
          graph = k.graph;
          graph_is = k.graph_is;
          ins = record {
            are = numbers ∙ k.ins.are;
            ends = rw t.ins (each_ended (IsEndpointIn setup k.graph) w.ins (end_emptied setup k.graph) k.ins.ends);
            some = rw long k.ins.some;
            few = rw long k.ins.few;
            room = rw long k.ins.room;
          };
          outs = outs_gain setup k.graph w.node w.number w.spare_out ends_only w.outs v.outs t.outs k.outs;
        }) in
        let now : StateView = view_now setup begin h.who h.begun v.journal in
        let now_is : now ≡ record view { ended = view.ended + length w.ins } = rw t.journal longer_view in
        let same_node : v.node ≡ w.node = ap (λ (x : WorkerIs). x.node) t.rest in
        let same_due : v.due ≡ w.due = ap (λ (x : WorkerIs). x.due) t.rest in
        let same_turned : v.owner.turned ≡ w.owner.turned = ap (λ (x : WorkerIs). x.owner.turned) t.rest in
        let turns : length (turned longer) ≡ length (turned w.journal) =
        ap length (turned-append w.journal new ∙ (ap (λ xs. turned w.journal ++ xs) (turned_ended w.ins) ∙ append-nil (turned w.journal))) in
        record {
          who = h.who;
          placed = placed;
          begun = h.begun;
          begun_is = rw (ap (λ (x : WorkerIs). x.number) t.rest) h.begun_is;
          lawful = lawful;
          view = record {
            func_is = rw (same_node, ap (λ (x : WorkerIs). x.in_force) t.rest) (h.view.func_is ∙ ap Some (sym (ap (λ (l : StateView). l.func) now_is)));
            counts_is = rw (ap (λ (x : WorkerIs). x.counts) t.rest) (h.view.counts_is ∙ sym (ap (λ (l : StateView). l.counts) now_is));
            last_is = rw (ap (λ (x : WorkerIs). x.last) t.rest) (h.view.last_is ∙ sym (ap (λ (l : StateView). l.last) now_is));
          };
          taken = taken;
          sent = record {
            sends = sends;
            steady = steady_by setup begin h.who h.begun v keeps placed lawful taken sends;
          };
          turned_is = rw t.journal (same_turned ∙ (h.turned_is ∙ sym turns));
          due = rw (t.journal, same_node, same_due, same_turned, edges, ap (λ (q : Progress). q.dues) stands) h.due;
          closing = record {
            unended = λ c. absurd (let open_now = t.closed in cc (c, open_now));
            finished = λ c. rw t.journal longer_finished;
            put_down = λ c. rw t.ins (all_empty w.ins);
          };
        }
