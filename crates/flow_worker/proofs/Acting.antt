-- An act keeps the law.
use Rattle.std.proofs.Common.{◌≡◌, ◌∙◌, ℕ, suc, ◌+◌, ◌<◌, List, [], ◌∷◌, Bool, true, false, ◌||◌, cond, nat_le, refl, sym, ap, subst, arith, Option, Some, None, slice_get}
use Rattle.std.specs.Prelude.{IfSome}
use Rattle.std.specs.List.{list_any}
use Rattle.std.proofs.lemmas.Bool.Decides.{nat_tests}
use Rattle.flow_dag.specs.Masks.{has}
use Rattle.marker_align.specs.Decision.{decided, is_aligned, may_turn}
use Rattle.marker_align.specs.Hands.{is_issued}
use Rattle.marker_align.specs.declared.decision.Act.{Act}
use Rattle.marker_align.specs.declared.decision.Act.TheVariants.{Turn, Process, Close, Nothing}
use Rattle.marker_align.specs.declared.decision.Due.{Due}
use Rattle.marker_align.specs.declared.held.Hand.{Hand}
use Rattle.marker_align.specs.declared.held.Hand.TheVariants.{Holds}
use Rattle.tuple_trace.specs.declared.tuple.Item.TheVariants.{Carry}
use Rattle.tuple_trace.specs.declared.tuple.Tuple.{Tuple}
use Rattle.flow_model.specs.Begin.{Begin}
use Rattle.flow_model.specs.Covers.{covers_edge, is_head}
use Rattle.flow_model.specs.Law.{IsInTime, next_due}
use Rattle.flow_model.specs.declared.topology.Lane.{Lane}
use Rattle.flow_model.specs.SetupView.{SetupView, Worker as WorkerOf}
use Rattle.flow_model.specs.Planned.{IsPlanned}
use Rattle.flow_model.specs.Duties.{duties}
use Rattle.flow_model.proofs.ElementLemmas.{in_of_place}
use Rattle.flow_model.proofs.LaneLemmas.{LaneIn, lane_into}
use Rattle.flow_model.proofs.WorkerLemmas.{worker_with}
use Rattle.flow_worker.specs.Endpoints.{LaneInIs}
use Rattle.flow_model.specs.Dues.{AreDues, IsDueOf}
use Rattle.flow_worker.specs.Worker.{IsPlaced, IsWorker, WorkerIs, edges_of, hands, progress_now}
use Rattle.flow_worker.specs.Turning.{HasDone}
use Rattle.sink_journal.proofs.SmallLemmas.{get_mapped}
use Rattle.flow_worker.proofs.Marking.{HoldMarker}
use Rattle.flow_model.proofs.HeadLemmas.{head_unentered}
use Rattle.flow_worker.proofs.PlaceLemmas.{in_end, in_receives}
use Rattle.flow_worker.proofs.Deciding.{all_last, closes_if, hold_marker, none_at, not_issued, processes_if, turns_if}
use Rattle.flow_worker.proofs.Steadying.{KeepsSteady}
use Rattle.flow_worker.proofs.TurnLaw.{turned_law}
use Rattle.flow_worker.proofs.ProcessLaw.{keeps_process}
use Rattle.flow_worker.proofs.CloseLaw.{keeps_close}

-- ---- a turn: the markers are in hand, or there are none

none_marked : (mask r c i : ℕ) (ins : List LaneInIs) → ((k : ℕ) (a : LaneInIs) → slice_get ins k ≡ Some a → has mask (i + k) ≡ true → ⊥) → HoldMarker mask r c i ins
none_marked mask r c i [] f = tt
none_marked mask r c i (a ∷ more) f = (
  (λ h. absurd (f 0 a refl (subst (λ n. has mask n ≡ true) (omega arith) h))),
  none_marked mask r c (i + 1) more (λ k b g h. f (suc k) b g (subst (λ n. has mask n ≡ true) (omega arith) h)),
)

-- no lane of a head is one of its due
pub head_places : (setup : SetupView) (who : WorkerOf) (w : WorkerIs) (due : Due) → ∥ IsPlanned setup ∥₁ → IsPlaced setup who w → IsDueOf setup w.node (edges_of w.ins) due → due.head ≡ true
    → (k : ℕ) (a : LaneInIs) → slice_get w.ins k ≡ Some a → has due.lanes k ≡ true → ⊥
head_places setup who w due planned placed is head k a g b =
    let i = in_of_place a w.ins k g in
    let e = in_end setup who w placed a i in
    let into : LaneIn setup.job who a.number = lane_into setup.job who a.number e.lane (worker_with setup.job w.number who placed.stands.who_is).1 e.numbered (in_receives setup who w placed a i e) in
    let x = into.numbered in
    let y = e.numbered in
    let same : into.lane ≡ e.lane = cc in
    let edge : into.lane.edge ≡ a.edge = ap (λ (l : Lane). l.edge) same ∙ sym e.edge_is in
    let at : slice_get setup.job.edges a.edge ≡ Some into.edge = subst (λ m. slice_get setup.job.edges m ≡ Some into.edge) edge into.edge_is in
    let covered : covers_edge setup due.request a.edge ≡ true = sym (is.lanes k a.edge (get_mapped (λ (a : LaneInIs). a.edge) w.ins k a g)) ∙ b in
    let uncovered : covers_edge setup due.request a.edge ≡ false = head_unentered setup planned due.request w.node a.edge into.edge (sym is.head ∙ head) at (into.to ∙ sym placed.stands.node_is) in
    absurd (cc)

pub turn_held : (setup : SetupView) (who : WorkerOf) (w : WorkerIs) (due : Due) (posted : Bool) → ∥ IsPlanned setup ∥₁ → IsPlaced setup who w → IsDueOf setup w.node (edges_of w.ins) due
    → may_turn (hands w) due posted ≡ true → HoldMarker due.lanes due.request due.cover 0 w.ins
turn_held setup who w due posted planned placed is e = go due.head refl e
  where
    go : (b : Bool) → due.head ≡ b → cond b (posted || list_any (is_issued due.request) (hands w)) (is_aligned due (hands w)) ≡ true → HoldMarker due.lanes due.request due.cover 0 w.ins
    go true h e = none_marked due.lanes due.request due.cover 0 w.ins (λ k a g b. head_places setup who w due planned placed is h k a g (subst (λ n. has due.lanes n ≡ true) (omega arith) b))
    go false h e = hold_marker due.lanes due.request due.cover 0 w.ins e

-- ---- a tuple: it is in time

earlier : (r : ℕ) (t : Tuple) (hand : Hand) → hand ≡ Holds (Carry t) → is_issued r hand ≡ false → t.issued < r
earlier r t hand e h = let k : nat_le r t.issued ≡ false = subst (λ x. is_issued r x ≡ false) e h in grind (arith, nat_tests)

in_time : (setup : SetupView) (begin : Begin) (who : WorkerOf) (w : WorkerIs) (due : Option Due) (dues : List ℕ) (posted : Bool) (place : ℕ) (a : LaneInIs) (t : Tuple) → w.node ≡ who.node
    → AreDues setup w.node dues due → IfSome due (IsDueOf setup w.node (edges_of w.ins)) → decided (hands w) due posted w.next ≡ Process place
    → slice_get w.ins place ≡ Some a → a.hand ≡ Holds (Carry t) → IsInTime (duties setup begin.turned who) t (next_due dues)
in_time setup begin who w None dues posted place a t node d is e g h = rw d tt
in_time setup begin who w (Some due) dues posted place a t node d is e g h =
    subst (IsInTime (duties setup begin.turned who) t) (sym (ap next_due d))
    (λ head.
    let q = not_issued (hands w) due posted (processes_if (hands w) due posted w.next place e).0 (is.head ∙ (ap (is_head setup due.request) node ∙ head)) in
    earlier due.request t a.hand h (none_at (is_issued due.request) w.ins place a q.1 g))

-- ---- whatever act was done

pub done_law : (setup : SetupView) (begin : Begin) (w v : WorkerIs) (act : Act) (posted : Bool) → KeepsSteady setup → ∥ IsPlanned setup ∥₁ → (h : IsWorker setup begin w) → w.closed ≡ false
    → act ≡ decided (hands w) w.due posted w.next → HasDone setup h.who w.due act w v → IsWorker setup begin v
done_law setup begin w v act posted keeps planned h open_ is done = go w.due refl act is done
  where
    go : (o : Option Due) → w.due ≡ o → (act : Act) → act ≡ decided (hands w) o posted w.next → HasDone setup h.who o act w v → IsWorker setup begin v
    go None e (Turn r) is done = absurd done
    go None e (Process place) is done =
        keeps_process setup begin keeps place w v h open_ done
        (in_time setup begin h.who w None (progress_now setup begin h.who w.journal).dues posted place done.at done.tuple h.placed.stands.node_is
        (subst (AreDues setup w.node (progress_now setup begin h.who w.journal).dues) e h.due.dues_are) tt (sym is) done.here done.held)
    go None e Close is done = keeps_close setup begin keeps w v h open_ e (all_last w.ins (closes_if (hands w) None posted w.next (sym is)).1) done
    go None e Nothing is done = absurd done
    go (Some due) e (Turn r) is done =
        let its : IsDueOf setup w.node (edges_of w.ins) due = subst (λ (o : Option Due). IfSome o (IsDueOf setup w.node (edges_of w.ins))) e h.due.due_is in
        turned_law setup begin keeps due w h open_ e (turn_held setup h.who w due posted planned h.placed its (turns_if (hands w) due posted w.next r (sym is)).0) v done
    go (Some due) e (Process place) is done =
        keeps_process setup begin keeps place w v h open_ done
        (in_time setup begin h.who w (Some due) (progress_now setup begin h.who w.journal).dues posted place done.at done.tuple h.placed.stands.node_is
        (subst (AreDues setup w.node (progress_now setup begin h.who w.journal).dues) e h.due.dues_are)
        (subst (λ (o : Option Due). IfSome o (IsDueOf setup w.node (edges_of w.ins))) e h.due.due_is) (sym is) done.here done.held)
    go (Some due) e Close is done =
        let q = (closes_if (hands w) (Some due) posted w.next (sym is)).0 in
        absurd (cc)
    go (Some due) e Nothing is done = absurd done
