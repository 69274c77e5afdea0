-- A turn of a request keeps the law.
use Rattle.std.proofs.Common.{◌≡◌, ◌∙◌, ℕ, suc, ◌+◌, ◌<◌, List, [], ◌∷◌, ◌++◌, Bool, true, false, cond, map, length, refl, sym, ap, subst, arith, Some, None, Option, slice_get, append_assoc, append-nil, length-append}
use Rattle.std.specs.Prelude.{Contains, IfSome}
use Rattle.flow_dag.specs.Masks.{has}
use Rattle.flow_dag.specs.declared.graph.Graph.{Graph}
use Rattle.marker_align.specs.declared.decision.Due.{Due}
use Rattle.marker_align.specs.declared.held.Hand.TheVariants.{Empty}
use Rattle.sink_journal.specs.declared.journal.Entry.{Entry}
use Rattle.sink_journal.specs.declared.journal.Entry.TheVariants.{Turned}
use Rattle.tuple_trace.specs.declared.tuple.Item.{Item}
use Rattle.tuple_trace.specs.declared.tuple.Item.TheVariants.{Mark}
use Rattle.versions.specs.declared.request.Change.{Change}
use Rattle.flow_model.specs.Begin.{Begin, view_at}
use Rattle.flow_model.specs.Covers.{covers_edge}
use Rattle.flow_model.specs.Lanes.{lanes, lanes_out, marked_lanes}
use Rattle.flow_model.specs.Law.{IsEnabled, IsExecution, Progress, Duties, initial, later_dues, next_due, progress_after}
use Rattle.flow_model.specs.declared.topology.Lane.{Lane}
use Rattle.flow_model.specs.SetupView.{SetupView, Worker as WorkerOf}
use Rattle.flow_model.specs.Points.{turned}
use Rattle.flow_model.specs.Replay.{StateView, after, after_all, items_on, puts, items_sent, shown, after_change}
use Rattle.flow_model.specs.Requests.{change_by, func_with}
use Rattle.flow_model.specs.Run.{IsLawfulFrom}
use Rattle.flow_model.specs.Duties.{dues_after, duties}
use Rattle.flow_model.proofs.ElementLemmas.{AreDistinct, IsIn, all_of_at, contains_of_in, in_of_place}
use Rattle.flow_model.proofs.JournalLemmas.{IsExecution-append, after_all-append, progress_after-append, sent-append, shown-append}
use Rattle.flow_worker.specs.Pairs.{EachOne, EachPair}
use Rattle.flow_worker.specs.Endpoints.{Gains, LaneInIs, IsSteadyIn, LaneOutIs, planned}
use Rattle.flow_model.specs.Dues.{AreDues, IsDueOf}
use Rattle.flow_model.specs.InForce.{counts_with, func_in}
use Rattle.flow_worker.specs.Worker.{IsEndpointIn, IsEndpointOut, IsPlaced, IsWorker, Sends, ShowsTaken, WorkerIs, edges_of, view_now, lane_numbers_in, progress_now, AreLanesOut, HasTakenIn}
use Rattle.flow_worker.specs.Steps.{HasTurned, emptied, marked_entries, marker_on}
use Rattle.sink_journal.proofs.SmallLemmas.{get_mapped}
use Rattle.flow_worker.proofs.Pairs.{each_both, each_of, pairs_each, pairs_keep, pairs_length}
use Rattle.flow_worker.proofs.Marking.{AreMarked, HoldMarker, at_onto, view_marks, marks_follow, marks_onto, progress_marks, sent_marks, show_marker, shown_marks, takes_marked, turned-append, turned_marks}
use Rattle.flow_worker.proofs.PlaceLemmas.{in_marked, ins_distinct, marked_in, number_is, out_lane_edge, out_sends, placed_edges, turn_puts}
use Rattle.flow_worker.proofs.Steadying.{KeepsSteady, steady_by}

-- ---- what stays of the lanes in

pub mapped_emptied : {B : Type 0} (f : LaneInIs → B) (mask i : ℕ) (ins : List LaneInIs) → ((a : LaneInIs) → f (record a { hand = Empty }) ≡ f a) → map f (emptied mask i ins) ≡ map f ins
mapped_emptied f mask i [] same = refl
mapped_emptied f mask i (a ∷ more) same = go (has mask i) (mapped_emptied f mask (i + 1) more same)
  where
    go : (b : Bool) → map f (emptied mask (i + 1) more) ≡ map f more → f (cond b (record a { hand = Empty }) a) ∷ map f (emptied mask (i + 1) more) ≡ f a ∷ map f more
    go true h = let e = same a in cc
    go false h = ap (λ ys. f a ∷ ys) h

pub each_emptied : (P : LaneInIs → Type 0) (mask i : ℕ) (ins : List LaneInIs) → ((a : LaneInIs) → P a → P (record a { hand = Empty })) → EachOne P ins → EachOne P (emptied mask i ins)
each_emptied P mask i [] f e = tt
each_emptied P mask i (a ∷ more) f e = (go (has mask i), each_emptied P mask (i + 1) more f e.1)
  where
    go : (b : Bool) → P (cond b (record a { hand = Empty }) a)
    go true = f a e.0
    go false = e.0

pub length_emptied : (mask i : ℕ) (ins : List LaneInIs) → length (emptied mask i ins) ≡ length ins
length_emptied mask i [] = refl
length_emptied mask i (a ∷ more) = ap suc (length_emptied mask (i + 1) more)

pub end_emptied : (setup : SetupView) (graph : Graph) (a : LaneInIs) → IsEndpointIn setup graph a → IsEndpointIn setup graph (record a { hand = Empty })
end_emptied setup graph a e = record { lane = e.lane; edge = e.edge; numbered = e.numbered; edge_is = e.edge_is; edge_there = e.edge_there; origin_is = e.origin_is }

pub end_gains : (setup : SetupView) (graph : Graph) (node : ℕ) (items : LaneOutIs → List Item) (a b : LaneOutIs) → Gains items a b → IsEndpointOut setup graph node a → IsEndpointOut setup graph node b
end_gains setup graph node items a b g e =
    subst (IsEndpointOut setup graph node) (sym g) (record { lane = e.lane; numbered = e.numbered; edge_is = e.edge_is; origin_is = e.origin_is })

-- lanes out that gain items stay where they are
pub outs_gain : (setup : SetupView) (graph : Graph) (node number spare : ℕ)
    (more : LaneOutIs → List Item) (outs later : List LaneOutIs)
    → EachPair (Gains more) outs later → AreLanesOut setup graph node number spare outs
    → AreLanesOut setup graph node number spare later
outs_gain setup graph node number spare more outs later pairs h = record {
  are = pairs_keep (Gains more) (λ (o : LaneOutIs). o.number) outs later
      (λ a b f. ap (λ (o : LaneOutIs). o.number) f) pairs ∙ h.are;
  ends = pairs_each (Gains more) (IsEndpointOut setup graph node)
      (IsEndpointOut setup graph node) outs later (end_gains setup graph node more) pairs h.ends;
  room = rw (pairs_length (Gains more) outs later pairs) h.room;
}

are_marked : (st : Duties) (r mask i : ℕ) (ins : List LaneInIs) → ((k : ℕ) (a : LaneInIs) → slice_get ins k ≡ Some a → has mask (i + k) ≡ true → IsIn a.number (st.marked_lanes r)) → AreMarked st r mask i ins
are_marked st r mask i [] f = tt
are_marked st r mask i (a ∷ more) f = (
  (λ h. f 0 a refl (subst (λ n. has mask n ≡ true) (omega arith) h)),
  are_marked st r mask (i + 1) more (λ k b g h. f (suc k) b g (subst (λ n. has mask n ≡ true) (omega arith) h)),
)

from_zero : (mask k : ℕ) → has mask (0 + k) ≡ true → has mask k ≡ true
from_zero mask k h = subst (λ n. has mask n ≡ true) (omega arith) h

to_zero : (mask k : ℕ) → has mask k ≡ true → has mask (0 + k) ≡ true
to_zero mask k h = subst (λ n. has mask n ≡ true) (omega arith) h

-- ---- the journal with its markers, and then the turn

module _ (setup : SetupView) (begin : Begin) (keeps : KeepsSteady setup) (due : Due) (w : WorkerIs) (h : IsWorker setup begin w) (open_ : w.closed ≡ false)
    (due_is : w.due ≡ Some due) (held : HoldMarker due.lanes due.request due.cover 0 w.ins)
  where
    abbrev who : WorkerOf
    who = h.who

    abbrev st : Duties
    st = duties setup begin.turned h.who

    abbrev marks : List Entry
    marks = marked_entries due.lanes due.request 0 w.ins

    abbrev turned_journal : List Entry
    turned_journal = (w.journal ++ marks) ++ Turned due.request ∷ []

    abbrev progress : Progress
    progress = progress_now setup begin h.who w.journal

    abbrev view : StateView
    view = view_now setup begin h.who h.begun w.journal

    is : IsDueOf setup w.node (edges_of w.ins) due
    is = subst (λ (o : Option Due). IfSome o (IsDueOf setup w.node (edges_of w.ins))) due_is h.due.due_is

    dues : progress.dues ≡ due.request ∷ dues_after setup due.request w.node
    dues = subst (AreDues setup w.node progress.dues) due_is h.due.dues_are

    is_next : next_due progress.dues ≡ Some due.request
    is_next = ap next_due dues

    number : who.number ≡ w.number
    number = number_is setup h.who w h.placed

    distinct : AreDistinct (lane_numbers_in w.ins)
    distinct = ins_distinct setup h.who w h.placed

    -- the mask has the places of the lanes that bring the marker
    mask_marks : (k : ℕ) (a : LaneInIs) → slice_get w.ins k ≡ Some a → has due.lanes (0 + k) ≡ true → IsIn a.number (marked_lanes setup who.number due.request)
    mask_marks k a g b =
        in_marked setup h.who w h.placed due.request a (in_of_place a w.ins k g)
        (sym (is.lanes k a.edge (get_mapped (λ (a : LaneInIs). a.edge) w.ins k a g)) ∙ from_zero due.lanes k b)

    marks_lawful : IsExecution st progress marks
    marks_lawful = marks_follow st due.request due.lanes 0 progress w.ins is_next (h.closing.unended open_) distinct
        (λ n i. absurd (subst (IsIn n) h.lawful.no_open_turn i))
        (are_marked st due.request due.lanes 0 w.ins mask_marks)

    abbrev onto : List ℕ
    onto = marks_onto due.lanes 0 w.ins progress.marked

    covered : (n : ℕ) → IsIn n (marked_lanes setup who.number due.request) → IsIn n onto
    covered n i =
        let m = marked_in setup h.who w h.placed due.request n i in
        let a : LaneInIs = m.1.0 in
        let there : has due.lanes m.0 ≡ true = is.lanes m.0 a.edge (get_mapped (λ (a : LaneInIs). a.edge) w.ins m.0 a m.1.1) ∙ m.1.3 in
        rw m.1.2 (at_onto due.lanes 0 m.0 a w.ins progress.marked m.1.1 (to_zero due.lanes m.0 there))

    turn_enabled : IsEnabled st (progress_after progress marks) (Turned due.request)
    turn_enabled =
        subst (λ (p : Progress). IsEnabled st p (Turned due.request)) (sym (progress_marks due.lanes due.request 0 progress w.ins))
        (is_next, all_of_at (Contains onto) (marked_lanes setup who.number due.request) (λ n i. contains_of_in n onto (covered n i)), h.closing.unended open_)

    all_progress : progress_now setup begin h.who turned_journal ≡ record progress { dues = later_dues progress.dues; marked = [] }
    all_progress =
        progress_after-append (initial st) (w.journal ++ marks) (Turned due.request ∷ [])
        ∙ (ap (λ (p : Progress). record p { dues = later_dues p.dues; marked = [] }) (progress_after-append (initial st) w.journal marks ∙ progress_marks due.lanes due.request 0 progress w.ins))

    turned_lawful : IsLawfulFrom setup begin h.who turned_journal
    turned_lawful = record {
      execution = (IsExecution-append st (initial st) (w.journal ++ marks) (Turned due.request ∷ [])).1 (
        (IsExecution-append st (initial st) w.journal marks).1 (h.lawful.execution, marks_lawful),
        (subst (λ (p : Progress). IsEnabled st p (Turned due.request)) (sym (progress_after-append (initial st) w.journal marks)) turn_enabled, tt),
      );
      no_open_turn = ap (λ (p : Progress). p.marked) all_progress;
    }

    turned_view : view_now setup begin h.who h.begun turned_journal ≡ after setup h.who view (Turned due.request)
    turned_view =
        after_all-append setup h.who (view_at setup begin.turned h.who h.begun) (w.journal ++ marks) (Turned due.request ∷ [])
        ∙ ap (λ (l : StateView). after setup h.who l (Turned due.request))
        (after_all-append setup h.who (view_at setup begin.turned h.who h.begun) w.journal marks ∙ view_marks setup h.who due.lanes due.request 0 view w.ins)

    shown_split : (n : ℕ) → shown setup n turned_journal ≡ shown setup n w.journal ++ shown setup n marks
    shown_split n = shown-append setup n (w.journal ++ marks) (Turned due.request ∷ []) ∙ (append-nil (shown setup n (w.journal ++ marks)) ∙ shown-append setup n w.journal marks)

    turned_takes : EachOne (ShowsTaken setup turned_journal) (emptied due.lanes 0 w.ins)
    turned_takes = takes_marked setup due.lanes due.request due.cover 0 w.journal turned_journal marks w.ins is.marker_is shown_split
        (show_marker setup due.lanes due.request 0 marks w.ins (λ k a q. shown_marks setup due.lanes due.request 0 k a w.ins distinct q)) held h.taken.takes

    turned_sent : (lane : Lane) → IsIn lane (lanes_out setup.job who.number)
        → items_sent setup h.who (view_at setup begin.turned h.who h.begun) lane turned_journal
        ≡ items_sent setup h.who (view_at setup begin.turned h.who h.begun) lane w.journal ++ cond (covers_edge setup due.request lane.edge) (Mark due.request due.cover ∷ []) []
    turned_sent lane i =
        let first : StateView = view_at setup begin.turned h.who h.begun in
        sent-append setup h.who first lane (w.journal ++ marks) (Turned due.request ∷ [])
        ∙ (ap (λ xs. xs ++ (items_on lane (puts setup h.who (after_all setup h.who first (w.journal ++ marks)) (Turned due.request)) ++ []))
        (sent-append setup h.who first lane w.journal marks
        ∙ (ap (λ xs. items_sent setup h.who first lane w.journal ++ xs) (sent_marks setup h.who due.lanes due.request 0 lane view w.ins) ∙ append-nil (items_sent setup h.who first lane w.journal)))
        ∙ ap (λ xs. items_sent setup h.who first lane w.journal ++ xs)
        (append-nil (items_on lane (puts setup h.who (after_all setup h.who first (w.journal ++ marks)) (Turned due.request)))
        ∙ turn_puts setup who.number due.request due.cover lane is.marker_is i))

    turned_turns : length (turned turned_journal) ≡ length (turned w.journal) + 1
    turned_turns =
        let one : turned turned_journal ≡ turned (w.journal ++ marks) ++ due.request ∷ [] = turned-append (w.journal ++ marks) (Turned due.request ∷ []) in
        let two : turned (w.journal ++ marks) ≡ turned w.journal = turned-append w.journal marks ∙ (ap (λ xs. turned w.journal ++ xs) (turned_marks due.lanes due.request 0 w.ins) ∙ append-nil (turned w.journal)) in
        ap length (one ∙ ap (λ xs. xs ++ due.request ∷ []) two) ∙ length-append (turned w.journal) (due.request ∷ [])

    abbrev marker_of : LaneOutIs → List Item
    marker_of = marker_on setup due.request due.cover

    turned_out : (a b : LaneOutIs) → Gains marker_of a b → Sends setup begin h.who h.begun w.journal a × IsIn a w.outs → Sends setup begin h.who h.begun turned_journal b
    turned_out a b e q lane g =
        let here : slice_get (lanes setup.job) a.number ≡ Some lane = subst (λ (o : LaneOutIs). slice_get (lanes setup.job) o.number ≡ Some lane) e g in
        let edge : lane.edge ≡ a.edge = out_lane_edge setup h.who w h.placed a q.1 lane here in
        ap planned e
        ∙ (sym (append_assoc a.sent a.waiting (marker_of a))
        ∙ (ap (λ xs. xs ++ marker_of a) (q.0 lane here)
        ∙ (ap (λ n. items_sent setup h.who (view_at setup begin.turned h.who h.begun) lane w.journal ++ cond (covers_edge setup due.request n) (Mark due.request due.cover ∷ []) []) (sym edge)
        ∙ sym (turned_sent lane (out_sends setup h.who w h.placed a q.1 lane here)))))

    func_turned : (o : Option Change) (l : StateView) → func_with o l.func ≡ (after_change o l).func
    func_turned None l = refl
    func_turned (Some change) l = refl

    counts_turned : (o : Option Change) (l : StateView) → counts_with o l.counts ≡ (after_change o l).counts
    counts_turned None l = refl
    counts_turned (Some change) l = refl

    pub turned_law : (v : WorkerIs) → HasTurned setup due w v → IsWorker setup begin v
    turned_law v t =
        let k = h.placed in
        let node : w.node ≡ who.node = k.stands.node_is in
        let numbers : lane_numbers_in v.ins ≡ lane_numbers_in w.ins = rw t.ins (mapped_emptied (λ (a : LaneInIs). a.number) due.lanes 0 w.ins (λ a. refl)) in
        let edges : edges_of v.ins ≡ edges_of w.ins = rw t.ins (mapped_emptied (λ (a : LaneInIs). a.edge) due.lanes 0 w.ins (λ a. refl)) in
        let long : length v.ins ≡ length w.ins = rw t.ins (length_emptied due.lanes 0 w.ins) in
        let taken : HasTakenIn setup v.journal v.ins = record {
          takes = rw (t.journal, t.ins) turned_takes;
          steady = rw t.ins (each_emptied IsSteadyIn due.lanes 0 w.ins (λ a q. q) h.taken.steady);
        } in
        let lawful : IsLawfulFrom setup begin h.who v.journal = rw t.journal turned_lawful in
        let sends : EachOne (Sends setup begin h.who h.begun v.journal) v.outs = rw t.journal
        (pairs_each (Gains marker_of) (λ o. Sends setup begin h.who h.begun w.journal o × IsIn o w.outs) (Sends setup begin h.who h.begun turned_journal) w.outs v.outs turned_out t.outs
        (each_both (Sends setup begin h.who h.begun w.journal) (λ o. IsIn o w.outs) w.outs h.sent.sends (each_of (λ o. IsIn o w.outs) w.outs (λ o i. i)))) in
        let placed : IsPlaced setup h.who v = subst (IsPlaced setup h.who) (sym t.rest) (record {
          stands = k.stands;
          graph = k.graph;
          graph_is = k.graph_is;
          ins = record {
            are = numbers ∙ k.ins.are;
            ends = rw t.ins (each_emptied (IsEndpointIn setup k.graph) due.lanes 0 w.ins (end_emptied setup k.graph) k.ins.ends);
            some = rw long k.ins.some;
            few = rw long k.ins.few;
            room = rw long k.ins.room;
          };
          outs = outs_gain setup k.graph w.node w.number w.spare_out marker_of w.outs v.outs t.outs k.outs;
        }) in
        let all_dues : (progress_now setup begin h.who v.journal).dues ≡ dues_after setup due.request w.node = rw t.journal (ap (λ (p : Progress). p.dues) all_progress ∙ ap later_dues dues) in
        let change : change_by setup due.request w.node ≡ change_by setup due.request who.node = ap (change_by setup due.request) node in
        let now : StateView = view_now setup begin h.who h.begun v.journal in
        let now_is : now ≡ after setup h.who view (Turned due.request) = rw t.journal turned_view in
        let func : func_in setup w.node v.in_force ≡ Some now.func =
        t.func view.func h.view.func_is
        ∙ ap Some (ap (λ (o : Option Change). func_with o view.func) change ∙ (func_turned (change_by setup due.request who.node) view ∙ sym (ap (λ (l : StateView). l.func) now_is))) in
        let counts : v.counts ≡ now.counts =
        t.counts ∙ (ap (counts_with (change_by setup due.request w.node)) h.view.counts_is
        ∙ (ap (λ (o : Option Change). counts_with o view.counts) change ∙ (counts_turned (change_by setup due.request who.node) view ∙ sym (ap (λ (l : StateView). l.counts) now_is)))) in
        let last : v.last ≡ now.last = t.last ∙ sym (ap (λ (l : StateView). l.last) now_is) in
        let few : IfSome v.due (λ (d : Due). v.owner.turned < d.request) = few_after v.due t.later.later (t.turned) in
        let turns : v.owner.turned ≡ length (turned v.journal) = rw t.journal (t.turned ∙ (ap (λ n. n + 1) h.turned_is ∙ sym turned_turns)) in
        let ended : (progress_now setup begin h.who v.journal).ended ≡ [] = rw t.journal (ap (λ (p : Progress). p.ended) all_progress ∙ h.closing.unended open_) in
        let same_node : v.node ≡ w.node = ap (λ (x : WorkerIs). x.node) t.rest in
        let closed : v.closed ≡ false = ap (λ (x : WorkerIs). x.closed) t.rest ∙ open_ in
        record {
          who = h.who;
          placed = placed;
          begun = h.begun;
          begun_is = rw (ap (λ (x : WorkerIs). x.number) t.rest) h.begun_is;
          lawful = lawful;
          view = record {
            func_is = rw same_node func;
            counts_is = counts;
            last_is = last;
          };
          taken = taken;
          sent = record {
            sends = sends;
            steady = steady_by setup begin h.who h.begun v keeps placed lawful taken sends;
          };
          turned_is = turns;
          due = record {
            dues_are = rw same_node (subst (λ (ds : List ℕ). AreDues setup w.node ds v.due) (sym all_dues) t.later.dues);
            due_is = rw (same_node, edges) (subst (λ (es : List ℕ). IfSome v.due (IsDueOf setup w.node es)) (sym (placed_edges setup h.who w k)) t.later.is_due);
            few_turned = few;
          };
          closing = record {
            unended = λ c. ended;
            finished = λ c. absurd (cc (c, closed));
            put_down = λ c. absurd (cc (c, closed));
          };
        }
      where
        few_after : (o : Option Due) → IfSome o (λ (d : Due). due.request < d.request) → v.owner.turned ≡ w.owner.turned + 1 → IfSome o (λ (d : Due). v.owner.turned < d.request)
        few_after None l e = tt
        few_after (Some d) l e =
            let before : w.owner.turned < due.request = subst (λ (o : Option Due). IfSome o (λ (d : Due). w.owner.turned < d.request)) due_is h.due.few_turned in
            omega (arith, l, e, before)
