-- A tuple that is processed keeps the law.
use Rattle.std.proofs.Common.{◌≡◌, ◌∙◌, ◌==◌, ℕ, zero, suc, List, [], ◌∷◌, ◌++◌, inl, inr, Bool, true, false, cond, map, length, refl, sym, ap, subst, Some, Option, slice_get, append_assoc, append-nil}
use Rattle.std.specs.Prelude.{Contains}
use Rattle.std.proofs.lemmas.Bool.{eqb-true}
use Rattle.std.proofs.lemmas.Option.{same_Some}
use Rattle.jobs.specs.declared.func.Func.{Func}
use Rattle.keyed_state.specs.Counts.{Counts}
use Rattle.marker_align.specs.declared.held.Hand.TheVariants.{Empty, Holds}
use Rattle.sink_journal.specs.declared.journal.Entry.{Entry}
use Rattle.sink_journal.specs.declared.journal.Entry.TheVariants.{Met}
use Rattle.tuple_trace.specs.declared.tuple.Item.{Item}
use Rattle.tuple_trace.specs.declared.tuple.Item.TheVariants.{Carry}
use Rattle.tuple_trace.specs.declared.tuple.Tuple.{Tuple}
use Rattle.flow_model.specs.Begin.{Begin, view_at}
use Rattle.flow_model.specs.Lanes.{lanes, lanes_in}
use Rattle.flow_model.specs.Law.{IsEnabled, IsInTime, Progress, Duties, initial, next_due}
use Rattle.flow_model.specs.declared.topology.Lane.{Lane}
use Rattle.flow_model.specs.SetupView.{SetupView}
use Rattle.flow_model.specs.Points.{turned}
use Rattle.flow_model.specs.Replay.{StateView, Put, after, items_on, puts, items_sent, shown}
use Rattle.flow_model.specs.Run.{IsLawfulFrom}
use Rattle.flow_model.specs.Duties.{duties}
use Rattle.flow_model.proofs.ElementLemmas.{AreDistinct, IsIn, contains_of_in}
use Rattle.flow_model.proofs.JournalLemmas.{IsExecution-append, after_all-append, progress_after-append, sent-append, shown-append}
use Rattle.flow_worker.specs.Pairs.{EachOne}
use Rattle.flow_worker.specs.Endpoints.{Gains, LaneInIs, IsSteadyIn, LaneOutIs, in_hand, planned}
use Rattle.flow_worker.specs.Worker.{IsEndpointIn, IsPlaced, IsWorker, Sends, ShowsTaken, WorkerIs, edges_of, view_now, lane_numbers_in, progress_now, HasTakenIn}
use Rattle.flow_worker.specs.Steps.{HasProcessed, items_at, items_if, laid_down, view_of}
use Rattle.flow_worker.proofs.Pairs.{pairs_each}
use Rattle.flow_worker.proofs.Marking.{in_numbers_at, self_test, turned-append}
use Rattle.flow_worker.proofs.PlaceLemmas.{ins_distinct, number_is}
use Rattle.flow_worker.proofs.Steadying.{KeepsSteady, steady_by}
use Rattle.flow_worker.proofs.TurnLaw.{end_emptied, outs_gain}

mapped_laid : {B : Type 0} (f : LaneInIs → B) (k : ℕ) (ins : List LaneInIs) → ((a : LaneInIs) → f (record a { hand = Empty }) ≡ f a) → map f (laid_down k ins) ≡ map f ins
mapped_laid f k [] same = refl
mapped_laid f zero (a ∷ more) same = ap (λ y. y ∷ map f more) (same a)
mapped_laid f (suc k) (a ∷ more) same = ap (λ ys. f a ∷ ys) (mapped_laid f k more same)

pub length_laid : (k : ℕ) (ins : List LaneInIs) → length (laid_down k ins) ≡ length ins
length_laid k [] = refl
length_laid zero (a ∷ more) = refl
length_laid (suc k) (a ∷ more) = ap suc (length_laid k more)

each_laid : (P : LaneInIs → Type 0) (k : ℕ) (ins : List LaneInIs) → ((a : LaneInIs) → P a → P (record a { hand = Empty })) → EachOne P ins → EachOne P (laid_down k ins)
each_laid P k [] f e = tt
each_laid P zero (a ∷ more) f e = (f a e.0, e.1)
each_laid P (suc k) (a ∷ more) f e = (e.0, each_laid P k more f e.1)

-- ---- what the new entry shows on a lane

met_here : (setup : SetupView) (n : ℕ) (journal : List Entry) (t : Tuple) → shown setup n (journal ++ Met n t ∷ []) ≡ shown setup n journal ++ Carry t ∷ []
met_here setup n journal t = shown-append setup n journal (Met n t ∷ []) ∙ ap (λ xs. shown setup n journal ++ xs) one
  where
    one : shown setup n (Met n t ∷ []) ≡ Carry t ∷ []
    one = rw (self_test n) refl

met_there : (setup : SetupView) (n m : ℕ) (journal : List Entry) (t : Tuple) → (m ≡ n → ⊥) → shown setup n (journal ++ Met m t ∷ []) ≡ shown setup n journal
met_there setup n m journal t f = shown-append setup n journal (Met m t ∷ []) ∙ (ap (λ xs. shown setup n journal ++ xs) (one (m == n) refl) ∙ append-nil (shown setup n journal))
  where
    one : (b : Bool) → (m == n) ≡ b → cond b (Carry t ∷ []) [] ++ [] ≡ []
    one true e = absurd (f (eqb-true m n e))
    one false e = refl

takes_others : (setup : SetupView) (m : ℕ) (journal : List Entry) (t : Tuple) (ins : List LaneInIs) → ¬ IsIn m (lane_numbers_in ins) → EachOne (ShowsTaken setup journal) ins
    → EachOne (ShowsTaken setup (journal ++ Met m t ∷ [])) ins
takes_others setup m journal t [] f e = tt
takes_others setup m journal t (a ∷ more) f e =
    (rw (met_there setup a.number m journal t (λ q. f (inl q))) e.0, takes_others setup m journal t more (λ i. f (inr i)) e.1)

takes_met : (setup : SetupView) (k : ℕ) (a : LaneInIs) (journal : List Entry) (t : Tuple) (ins : List LaneInIs) → AreDistinct (lane_numbers_in ins) → slice_get ins k ≡ Some a → a.hand ≡ Holds (Carry t)
    → EachOne (ShowsTaken setup journal) ins → EachOne (ShowsTaken setup (journal ++ Met a.number t ∷ [])) (laid_down k ins)
takes_met setup k a journal t [] d g h e = absurd (cc)
takes_met setup zero a journal t (b ∷ more) d g h e =
    let q : b ≡ a = cc in
    let taken : b.taken ≡ shown setup b.number journal ++ Carry t ∷ [] = e.0 ∙ ap (λ x. shown setup b.number journal ++ in_hand x) (ap (λ (x : LaneInIs). x.hand) q ∙ h) in
    subst (λ (x : LaneInIs). EachOne (ShowsTaken setup (journal ++ Met x.number t ∷ [])) (record b { hand = Empty } ∷ more)) q (
      (taken ∙ (sym (met_here setup b.number journal t) ∙ sym (append-nil (shown setup b.number (journal ++ Met b.number t ∷ []))))),
      takes_others setup b.number journal t more d.0 e.1,
    )
takes_met setup (suc k) a journal t (b ∷ more) d g h e = (
  rw (met_there setup b.number a.number journal t (λ q. d.0 (subst (λ n. IsIn n (lane_numbers_in more)) q (in_numbers_at k a more g)))) e.0,
  takes_met setup k a journal t more d.1 g h e.1,
)

-- ---- the law

module _ (setup : SetupView) (begin : Begin) (keeps : KeepsSteady setup) (place : ℕ) (w v : WorkerIs) (h : IsWorker setup begin w) (open_ : w.closed ≡ false)
    (p : HasProcessed setup h.who place w v)
  where
    abbrev view : StateView
    view = view_now setup begin h.who h.begun w.journal

    abbrev first : StateView
    first = view_at setup begin.turned h.who h.begun

    abbrev st : Duties
    st = duties setup begin.turned h.who

    abbrev progress : Progress
    progress = progress_now setup begin h.who w.journal

    abbrev entry : Entry
    entry = Met p.at.number p.tuple

    abbrev longer : List Entry
    longer = w.journal ++ entry ∷ []

    abbrev view_by : Func → Counts → ℕ → StateView
    view_by func counts last = record { func = func; counts = counts; last = last; ended = 0 }

    func_same : p.func ≡ view.func
    func_same = same_Some p.func view.func (sym p.func_is ∙ h.view.func_is)

    same_puts : puts setup h.who (view_of w p.func) entry ≡ puts setup h.who view entry
    same_puts =
        ap (λ f. puts setup h.who (view_by f w.counts w.last) entry) func_same
        ∙ (ap (λ c. puts setup h.who (view_by view.func c w.last) entry) h.view.counts_is
        ∙ ap (λ n. puts setup h.who (view_by view.func view.counts n) entry) h.view.last_is)

    same_counts : (after setup h.who (view_of w p.func) entry).counts ≡ (after setup h.who view entry).counts
    same_counts =
        ap (λ f. (after setup h.who (view_by f w.counts w.last) entry).counts) func_same
        ∙ (ap (λ c. (after setup h.who (view_by view.func c w.last) entry).counts) h.view.counts_is
        ∙ ap (λ n. (after setup h.who (view_by view.func view.counts n) entry).counts) h.view.last_is)

    abbrev put : List Put
    put = puts setup h.who (view_of w p.func) entry

    abbrev gained : LaneOutIs → List Item
    gained out = items_at setup.job put out.number

    longer_sent : (lane : Lane) → items_sent setup h.who first lane longer ≡ items_sent setup h.who first lane w.journal ++ items_on lane put
    longer_sent lane =
        sent-append setup h.who first lane w.journal (entry ∷ [])
        ∙ ap (λ xs. items_sent setup h.who first lane w.journal ++ xs) (append-nil (items_on lane (puts setup h.who view entry)) ∙ ap (items_on lane) (sym same_puts))

    sends_more : (a b : LaneOutIs) → Gains gained a b → Sends setup begin h.who h.begun w.journal a → Sends setup begin h.who h.begun longer b
    sends_more a b e q lane g =
        let here : slice_get (lanes setup.job) a.number ≡ Some lane = subst (λ (o : LaneOutIs). slice_get (lanes setup.job) o.number ≡ Some lane) e g in
        ap planned e
        ∙ (sym (append_assoc a.sent a.waiting (gained a))
        ∙ (ap (λ xs. xs ++ gained a) (q lane here)
        ∙ (ap (λ (o : Option Lane). items_sent setup h.who first lane w.journal ++ items_if o put) here ∙ sym (longer_sent lane))))

    pub keeps_process : IsInTime st p.tuple (next_due progress.dues) → IsWorker setup begin v
    keeps_process in_time =
        let k = h.placed in
        let distinct : AreDistinct (lane_numbers_in w.ins) = ins_distinct setup h.who w k in
        let among : Contains st.lanes p.at.number =
        contains_of_in p.at.number (lanes_in setup.job h.who.number)
        (subst (λ n. IsIn p.at.number (lanes_in setup.job n)) (sym (number_is setup h.who w k)) (subst (IsIn p.at.number) k.ins.are (in_numbers_at place p.at w.ins p.here))) in
        let enabled : IsEnabled st progress entry = (among, h.lawful.no_open_turn, h.closing.unended open_, in_time) in
        let stands : progress_now setup begin h.who longer ≡ progress = progress_after-append (initial st) w.journal (entry ∷ []) in
        let lawful : IsLawfulFrom setup begin h.who v.journal = rw p.journal (record {
          execution = (IsExecution-append st (initial st) w.journal (entry ∷ [])).1 (h.lawful.execution, (enabled, tt));
          no_open_turn = ap (λ (q : Progress). q.marked) stands ∙ h.lawful.no_open_turn;
        }) in
        let now : StateView = view_now setup begin h.who h.begun v.journal in
        let now_is : now ≡ after setup h.who view entry = rw p.journal (after_all-append setup h.who first w.journal (entry ∷ [])) in
        let numbers : lane_numbers_in v.ins ≡ lane_numbers_in w.ins = rw p.ins (mapped_laid (λ (a : LaneInIs). a.number) place w.ins (λ a. refl)) in
        let edges : edges_of v.ins ≡ edges_of w.ins = rw p.ins (mapped_laid (λ (a : LaneInIs). a.edge) place w.ins (λ a. refl)) in
        let taken : HasTakenIn setup v.journal v.ins = record {
          takes = rw (p.journal, p.ins) (takes_met setup place p.at w.journal p.tuple w.ins distinct p.here p.held h.taken.takes);
          steady = rw p.ins (each_laid IsSteadyIn place w.ins (λ a q. q) h.taken.steady);
        } in
        let long : length v.ins ≡ length w.ins = rw p.ins (length_laid place w.ins) in
        let sends : EachOne (Sends setup begin h.who h.begun v.journal) v.outs = rw p.journal
        (pairs_each (Gains gained) (Sends setup begin h.who h.begun w.journal) (Sends setup begin h.who h.begun longer) w.outs v.outs sends_more p.outs h.sent.sends) in
        let placed : IsPlaced setup h.who v = subst (IsPlaced setup h.who) (sym p.rest) (record {
          stands = k.stands;
          graph = k.graph;
          graph_is = k.graph_is;
          ins = record {
            are = numbers ∙ k.ins.are;
            ends = rw p.ins (each_laid (IsEndpointIn setup k.graph) place w.ins (end_emptied setup k.graph) k.ins.ends);
            some = rw long p.next;
            few = rw long k.ins.few;
            room = rw long k.ins.room;
          };
          outs = outs_gain setup k.graph w.node w.number w.spare_out gained w.outs v.outs p.outs k.outs;
        }) in
        let same_node : v.node ≡ w.node = ap (λ (x : WorkerIs). x.node) p.rest in
        let same_due : v.due ≡ w.due = ap (λ (x : WorkerIs). x.due) p.rest in
        let same_turned : v.owner.turned ≡ w.owner.turned = ap (λ (x : WorkerIs). x.owner.turned) p.rest in
        let closed : v.closed ≡ false = ap (λ (x : WorkerIs). x.closed) p.rest ∙ open_ in
        let turns : length (turned longer) ≡ length (turned w.journal) = ap length (turned-append w.journal (entry ∷ []) ∙ append-nil (turned w.journal)) in
        record {
          who = h.who;
          placed = placed;
          begun = h.begun;
          begun_is = rw (ap (λ (x : WorkerIs). x.number) p.rest) h.begun_is;
          lawful = lawful;
          view = record {
            func_is = rw (same_node, ap (λ (x : WorkerIs). x.in_force) p.rest) (h.view.func_is ∙ ap Some (sym (ap (λ (l : StateView). l.func) now_is)));
            counts_is = p.counts ∙ (same_counts ∙ sym (ap (λ (l : StateView). l.counts) now_is));
            last_is = rw (ap (λ (x : WorkerIs). x.last) p.rest) (h.view.last_is ∙ sym (ap (λ (l : StateView). l.last) now_is));
          };
          taken = taken;
          sent = record {
            sends = sends;
            steady = steady_by setup begin h.who h.begun v keeps placed lawful taken sends;
          };
          turned_is = rw p.journal (same_turned ∙ (h.turned_is ∙ sym turns));
          due = rw (p.journal, same_node, same_due, same_turned, edges, ap (λ (q : Progress). q.dues) stands) h.due;
          closing = record {
            unended = λ c. rw p.journal (ap (λ (q : Progress). q.ended) stands ∙ h.closing.unended open_);
            finished = λ c. absurd (cc (c, closed));
            put_down = λ c. absurd (cc (c, closed));
          };
        }
