-- The way of a tuple through the job: how it begins, goes on and ends.
use Rattle.std.proofs.Common.{◌≡◌, ◌<◌, ◌-◌, ◌==◌, ◌⊎◌, ℕ, List, [], ◌∷◌, ◌++◌, inl, inr, Bool, true, false, cond, length, Option, Some, None, refl, sym, ap, subst, ◌∙◌, arith, append_assoc}
use Rattle.std.specs.Prelude.{Contains, slice_get}
use Rattle.std.specs.List.{AllByRecursion, cons_option}
use Rattle.std.proofs.lemmas.Bool.{eq-eqb, eqb-false, eqb-true}
use Rattle.std.proofs.lemmas.List.{append-nil}
use Rattle.std.proofs.lemmas.Option.{get_or_from_slice_get, same_Some}
use Rattle.flow_dag.specs.declared.edge.Edge.{Edge}
use Rattle.jobs.specs.Law.{IsLawful}
use Rattle.jobs.specs.JobView.{JobView}
use Rattle.operators.specs.declared.output.Output.{Output}
use Rattle.operators.proofs.OutputLemmas.{outputs_made}
use Rattle.sink_journal.specs.declared.journal.Entry.{Entry}
use Rattle.sink_journal.specs.declared.journal.Entry.TheVariants as entry
use Rattle.tuple_trace.specs.declared.tuple.Item.{Item}
use Rattle.tuple_trace.specs.declared.tuple.Item.TheVariants as item
use Rattle.tuple_trace.specs.declared.tuple.Tuple.{Tuple}
use Rattle.flow_model.specs.Lanes.{is_same_lane, lane_at, lane_of, lanes, lanes_in, no_lane}
use Rattle.flow_model.specs.declared.topology.Lane.{Lane}
use Rattle.flow_model.specs.SetupView.{SetupView, Worker}
use Rattle.flow_model.specs.Replay.{items_on, shown, visit_at}
use Rattle.flow_model.specs.Workers.{nth_worker, workers_in}
use Rattle.flow_model.proofs.ElementLemmas.{all_of, contains_of_in, place_of_in}
use Rattle.flow_model.proofs.LaneLemmas.{lane_is, lanes_that_in}
use Rattle.flow_replay.specs.declared.worker_run.WorkerRun.{WorkerRun}
use Rattle.flow_replay.specs.inner.Runs.{IsConserved, IsQuiescentFrom, IsStep, run_at, from_node, journal_at, run_view, made_at, with_item}
use Rattle.flow_model.specs.Topology.{IsNumberOf}
use Rattle.flow_replay.specs.inner.Delivery.{IsDelivered, IsMeeting, IsOfRow, IsInFlight, Meets, rank_behind}
use Rattle.flow_model.proofs.LaneNumbers.{is_lane_of, receiver_below, receiver_node, receiver_there}
use Rattle.flow_model.proofs.WorkerPlaces.{node_below, nth_worker-get}
use Rattle.flow_replay.proofs.ConservationLemmas.{in_force_step, meet_conserved, mine, out_puts}

-- each edge leads to a higher rank, and ranks are below 64
pub record IsRanked (job : JobView) (rank : ℕ → ℕ) : Type 0 where
  pub forward : (i : ℕ) (edge : Edge) → slice_get job.edges i ≡ Some edge →
      rank edge.from < rank edge.to
  pub below : (node : ℕ) → node < length job.nodes → rank node < 64

-- ---- what is known of a lane's receiver

pub lane_there : (job : JobView) (n : ℕ) (lane : Lane) → slice_get (lanes job) n ≡ Some lane →
    lane_at job n ≡ lane
lane_there job n lane e = get_or_from_slice_get (lanes job) n lane no_lane e

pub receiver_number : (job : JobView) (n : ℕ) (lane : Lane) → slice_get (lanes job) n
    ≡ Some lane → (nth_worker job lane.receiver).number ≡ lane.receiver
receiver_number job n lane e =
    let is = lane_is job n lane e in ap (λ (p : Worker). p.number) (nth_worker-get job lane.receiver
    is.to (receiver_there job lane is)) ∙ sym is.receiver

comes_in : (job : JobView) (n : ℕ) (lane : Lane) → slice_get (lanes job) n ≡ Some lane →
    Contains (lanes_in job lane.receiver) n
comes_in job n lane e = contains_of_in n (lanes_in job lane.receiver) (lanes_that_in (λ (l : Lane).
    l.receiver == lane.receiver) job n lane e (eq-eqb lane.receiver lane.receiver refl))

-- a tuple's lane leads to a node of higher rank
rises : (job : JobView) (rank : ℕ → ℕ) (who : Worker) (n : ℕ) (out : Output) → IsRanked job rank →
    slice_get (lanes job) n ≡ Some (lane_at job n)
    → lane_of job (Some who.number) who.node out.port out.tuple ≡ Some (lane_at job n) →
    rank who.node < rank_behind job rank n
rises job rank who n out ranked g along =
    let l : Lane = lane_at job n in
    let is = lane_is job n l g in
    let of = is_lane_of job (Some who.number) who.node out.port out.tuple l along in
    let same : of.edge ≡ is.edge = same_Some of.edge is.edge (sym of.edge_is ∙ is.edge_is) in
    let from : is.edge.from ≡ who.node = ap (λ (e : Edge). e.from) (sym same) ∙ of.from_is in
    let to : (nth_worker job l.receiver).node ≡ is.edge.to = receiver_node job l is in
    let up : rank is.edge.from < rank is.edge.to = ranked.forward l.edge is.edge is.edge_is in
    subst (λ (v : ℕ). rank v < rank (nth_worker job l.receiver).node) from (subst (λ (v : ℕ). rank
    is.edge.from < rank v) (sym to) up)

-- ---- a tuple in flight

made_rows : (setup : SetupView) (who : Worker) (run : WorkerRun) (t : Tuple) →
    AllByRecursion (IsOfRow t.row t.issued) (made_at setup who run t)
made_rows setup who run t =
    all_of (IsOfRow t.row t.issued) (made_at setup who run t)
    (λ out i.
    let (k, e) = place_of_in out (made_at setup who run t) i in
    let is = outputs_made setup.job (visit_at who (run_view setup who run)) (run_view setup who
    run).func run.state.counts t k out e in
    (is.row, is.issued))

-- a meeting begins the way
way_begins : (setup : SetupView) (rank : ℕ → ℕ) (n : ℕ) (t : Tuple) (old new : List WorkerRun) →
    slice_get (lanes setup.job) n ≡ Some (lane_at setup.job n)
    → (lane_at setup.job n).receiver < length old →
    IsStep setup (lane_at setup.job n).receiver (entry.Met n t) old new
    → (outs : List Output) → outs ≡ made_at setup (nth_worker setup.job (lane_at setup.job n).receiver)
    (run_at old (lane_at setup.job n).receiver) t
    → IsInFlight setup rank n t outs old new
way_begins setup rank n t old new g below step outs are = record {
  long = step.long;
  in_force = in_force_step setup w (entry.Met n t) old new step;
  conserved = λ f fed in_flight quiescent conserved.
      subst (λ (xs : List Output). IsConserved setup fed new (λ (lane : Lane). items_on lane
      (out_puts setup.job (nth_worker setup.job w) xs) ++ in_flight lane)) (sym are)
      (meet_conserved setup rank n (lane_at setup.job n) t old new g (receiver_number setup.job n
      (lane_at setup.job n) g) step (f w below) fed in_flight quiescent conserved);
  met = λ v. gain v (v == w) refl;
  of_row = subst (AllByRecursion (IsOfRow t.row t.issued)) (sym are) (made_rows setup (nth_worker
      setup.job w) (run_at old w) t);
}
  where
    w : ℕ
    w = (lane_at setup.job n).receiver

    gain : (v : ℕ) (b : Bool) → (v == w) ≡ b → Meets setup.job v t.row t.issued (journal_at old v)
        (journal_at new v)
    gain v true e =
        let s = eqb-true v w e in
        subst (λ (x : ℕ). Meets setup.job x t.row t.issued (journal_at old x) (journal_at new x))
        (sym s)
        (record {
          more = entry.Met n t ∷ [];
          is = step.journal;
          meetings = (
            (
              comes_in setup.job n
                  (lane_at setup.job n) g,
              refl,
              refl,
            ),
            tt,
          );
        })
    gain v false e = record {
      more = [];
      is = ap (λ (d : WorkerRun). d.journal) (step.others v
          (eqb-false v w e)) ∙ sym (append-nil (journal_at old v));
      meetings = tt;
    }

push_item : (b : Bool) (x : Item) (xs ys : List Item) →
    cons_option (cond b (Some x) None) xs ++ ys ≡ cond b (x ∷ (xs ++ ys)) (xs ++ ys)
push_item true x xs ys = refl
push_item false x xs ys = refl

each_append : {A : Type 0} (P : A → Type 0) (xs ys : List A) → AllByRecursion P xs →
    AllByRecursion P ys → AllByRecursion P (xs ++ ys)
each_append P [] ys a b = b
each_append P (x ∷ xs) ys a b = (a.0, each_append P xs ys a.1 b)

meets_both : (job : JobView) (w row issued : ℕ) (xs ys zs : List Entry) →
    Meets job w row issued xs ys → Meets job w row issued ys zs → Meets job w row issued xs zs
meets_both job w row issued xs ys zs a b = record {
  more = a.more ++ b.more;
  is = b.is ∙ (ap (λ (js : List Entry). js ++ b.more) a.is ∙ append_assoc xs a.more b.more);
  meetings = each_append (IsMeeting job w row issued) a.more b.more a.meetings b.meetings;
}

-- an output is delivered to its end
way_goes : (setup : SetupView) (rank : ℕ → ℕ) (n : ℕ) (t : Tuple) (out : Output) (outs : List Output)
    (next : ℕ) (old now new : List WorkerRun) → IsRanked setup.job rank
    → (nth_worker setup.job (lane_at setup.job n).receiver).number ≡ (lane_at setup.job n).receiver
    → IsInFlight setup rank n t (out ∷ outs) old now → slice_get (lanes setup.job) next
    ≡ Some (lane_at setup.job next)
    → lane_of setup.job (Some (nth_worker setup.job (lane_at setup.job n).receiver).number) (nth_worker
    setup.job (lane_at setup.job n).receiver).node out.port out.tuple
    ≡ Some (lane_at setup.job next)
    → IsDelivered setup rank next out.tuple now new → IsInFlight setup rank n t outs old new
way_goes setup rank n t out outs next old now new ranked num way g along delivered = record {
  long = delivered.long ∙ way.long;
  in_force = λ f. delivered.in_force (way.in_force f);
  conserved = λ f fed in_flight quiescent conserved.
      delivered.conserved (way.in_force f) fed (λ (l : Lane). items_on l (out_puts setup.job who
      outs) ++ in_flight l) (still in_flight quiescent)
      (λ m l h. way.conserved f fed in_flight quiescent conserved m l h
      ∙ ap (λ (xs : List Item). shown setup m (journal_at now l.receiver) ++ xs) (placed
      in_flight l));
  met = λ v. meets_both setup.job v t.row t.issued (journal_at old v) (journal_at now v) (journal_at
      new v) (way.met v)
      (subst (λ (r : ℕ). Meets setup.job v r t.issued (journal_at now v) (journal_at new v))
      way.of_row.0.0
      (subst (λ (i : ℕ). Meets setup.job v out.tuple.row i (journal_at now v) (journal_at new v))
      way.of_row.0.1 (delivered.met v)));
  of_row = way.of_row.1;
}
  where
    who : Worker
    who = nth_worker setup.job (lane_at setup.job n).receiver

    placed : (in_flight : Lane → List Item) (l : Lane)
        → cons_option (cond (is_same_lane (lane_of setup.job (Some who.number) who.node out.port
        out.tuple) l) (Some (item.Carry out.tuple)) None) (items_on l (out_puts setup.job who
        outs)) ++ in_flight l
        ≡ with_item (lane_at setup.job next) (item.Carry out.tuple) (λ (x : Lane). items_on x
        (out_puts setup.job who outs) ++ in_flight x) l
    placed in_flight l =
        push_item (is_same_lane (lane_of setup.job (Some who.number) who.node out.port out.tuple)
        l) (item.Carry out.tuple) (items_on l (out_puts setup.job who outs)) (in_flight l)
        ∙ ap (λ (o : Option Lane). cond (is_same_lane o l) (item.Carry out.tuple ∷ (items_on l
        (out_puts setup.job who outs) ++ in_flight l)) (items_on l (out_puts setup.job who outs)
        ++ in_flight l)) along

    up : rank who.node < rank_behind setup.job rank next
    up = rises setup.job rank who next out ranked g along

    still : (in_flight : Lane → List Item) → IsQuiescentFrom setup.job rank (rank_behind setup.job
        rank n) in_flight
        → IsQuiescentFrom setup.job rank (rank_behind setup.job rank next) (λ (l : Lane). items_on l
        (out_puts setup.job who outs) ++ in_flight l)
    still in_flight quiescent m l h high = go (mine setup.job who outs l)
      where
        go : (items_on l (out_puts setup.job who outs) ≡ []) ⊎ ((l.sender
            ≡ Some who.number) × (from_node setup.job l ≡ who.node)) →
            items_on l (out_puts setup.job who outs) ++ in_flight l ≡ []
        go (inl p) = ap (λ (xs : List Item). xs ++ in_flight l) p
            ∙ quiescent m l h (omega (arith, up, high))
        go (inr p) = absurd (let same : rank (from_node setup.job l)
            ≡ rank who.node = ap rank p.1 in omega (arith, up, high, same))

-- an output for which there is no lane is nowhere in flight
way_skips : (setup : SetupView) (rank : ℕ → ℕ) (n : ℕ) (t : Tuple) (out : Output) (outs : List Output)
    (old now : List WorkerRun) → IsInFlight setup rank n t (out ∷ outs) old now
    → lane_of setup.job (Some (nth_worker setup.job (lane_at setup.job n).receiver).number) (nth_worker
    setup.job (lane_at setup.job n).receiver).node out.port out.tuple ≡ None
    → IsInFlight setup rank n t outs old now
way_skips setup rank n t out outs old now way none = record {
  long = way.long;
  in_force = way.in_force;
  conserved = λ f fed in_flight quiescent conserved m l h.
      way.conserved f fed in_flight quiescent conserved m l h
      ∙ ap (λ (o : Option Lane). shown setup m (journal_at now l.receiver) ++ (cons_option (cond
      (is_same_lane o l) (Some (item.Carry out.tuple)) None) (items_on l (out_puts setup.job
      (nth_worker setup.job (lane_at setup.job n).receiver) outs)) ++ in_flight l)) none;
  met = way.met;
  of_row = way.of_row.1;
}

-- ---- the same, by what the code knows

-- the lane that the code reads is the lane with this number
pub read_lane : (job : JobView) (n : ℕ) (lane : Lane) → slice_get (lanes job) n ≡ Some lane →
    (slice_get (lanes job) n ≡ Some (lane_at job n)) × (lane.receiver ≡ (lane_at job n).receiver)
read_lane job n lane there = let same = lane_there job n lane there in (
  there
      ∙ ap Some (sym same),
  ap (λ (l : Lane). l.receiver) (sym same),
)

-- the lane that was found for an output
pub found_lane : (job : JobView) (found : Option Lane) (next : ℕ) → IsNumberOf job found next →
    (slice_get (lanes job) next ≡ Some (lane_at job next)) × (found ≡ Some (lane_at job next))
found_lane job found next (lane, along, numbered) = let at = sym (lane_there job next lane numbered)
    in (numbered ∙ ap Some at, along ∙ ap Some at)

pub way_at : (setup : SetupView) (rank : ℕ → ℕ) (n w : ℕ) (t : Tuple) (old new : List WorkerRun) (outs
    : List Output) → slice_get (lanes setup.job) n ≡ Some (lane_at setup.job n) → w
    ≡ (lane_at setup.job n).receiver
    → length old ≡ length (workers_in setup.job) → IsStep setup w (entry.Met n t) old new → outs
    ≡ made_at setup (nth_worker setup.job w) (run_at old w) t → IsInFlight setup rank n t outs old new
way_at setup rank n w t old new outs there received long step are =
    let below = receiver_below setup.job n (lane_at setup.job n) there in
    way_begins setup rank n t old new there (omega (arith, below, long))
    (subst (λ (x : ℕ). IsStep setup x (entry.Met n t) old new) received step) outs
    (are ∙ ap (λ (x : ℕ). made_at setup (nth_worker setup.job x) (run_at old x) t) received)

-- where an output goes, as the worker at the end of a lane sends it
sent_from : (job : JobView) (n w node : ℕ) (out : Output) → slice_get (lanes job) n
    ≡ Some (lane_at job n) → w ≡ (lane_at job n).receiver → node ≡ (nth_worker job w).node
    → lane_of job (Some (nth_worker job (lane_at job n).receiver).number) (nth_worker job (lane_at job
    n).receiver).node out.port out.tuple ≡ lane_of job (Some w) node out.port out.tuple
sent_from job n w node out there received node_is =
    let who : Worker = nth_worker job (lane_at job n).receiver in
    let same : nth_worker job w ≡ who = ap (nth_worker job) received in
    let number : who.number ≡ w = receiver_number job n (lane_at job n) there ∙ sym received in
    ap (λ (k : ℕ). lane_of job (Some k) who.node out.port out.tuple) number
    ∙ ap (λ (v : ℕ). lane_of job (Some w) v out.port out.tuple) (ap (λ (p : Worker). p.node) (sym
    same) ∙ sym node_is)

pub falls_at : (job : JobView) (rank : ℕ → ℕ) (n w next node : ℕ) (out : Output) →
    IsRanked job rank → IsLawful job → slice_get (lanes job) n ≡ Some (lane_at job n) → w
    ≡ (lane_at job n).receiver
    → node ≡ (nth_worker job w).node → IsNumberOf job (lane_of job (Some w) node out.port out.tuple)
    next
    → 64 - rank_behind job rank next < 64 - rank_behind job rank n
falls_at job rank n w next node out ranked law there received node_is found =
    let (g, along) = found_lane job (lane_of job (Some w) node out.port out.tuple) next found in
    let who : Worker = nth_worker job (lane_at job n).receiver in
    let way : lane_of job (Some who.number) who.node out.port out.tuple
    ≡ Some (lane_at job next) = sent_from job n w node out there received node_is ∙ along in
    let up = rises job rank who next out ranked g way in
    let below = node_below job (lane_at job next).receiver (receiver_below job next (lane_at job
    next) g) in
    let b = ranked.below (nth_worker job (lane_at job next).receiver).node below in
    omega (arith, up, b)

pub goes_at : (setup : SetupView) (rank : ℕ → ℕ) (n w next : ℕ) (t : Tuple) (all : List Output) (out :
    Output) (outs : List Output) (node : ℕ) (old now new : List WorkerRun) → IsRanked setup.job rank
    → slice_get (lanes setup.job) n ≡ Some (lane_at setup.job n) → w
    ≡ (lane_at setup.job n).receiver → node ≡ (nth_worker setup.job w).node → all ≡ out ∷ outs →
    IsInFlight setup rank n t all old now
    → IsNumberOf setup.job (lane_of setup.job (Some w) node out.port out.tuple) next →
    IsDelivered setup rank next out.tuple now new → IsInFlight setup rank n t outs old new
goes_at setup rank n w next t all out outs node old now new ranked there received node_is a way
    found delivered =
    let (g, along) = found_lane setup.job (lane_of setup.job (Some w) node out.port out.tuple) next
    found in
    let num = receiver_number setup.job n (lane_at setup.job n) there in
    way_goes setup rank n t out outs next old now new ranked num (subst (λ (xs : List Output).
    IsInFlight setup rank n t xs old now) a way) g (sent_from setup.job n w node out there
    received node_is ∙ along) delivered

pub skips_at : (setup : SetupView) (rank : ℕ → ℕ) (n w : ℕ) (t : Tuple) (all : List Output) (out :
    Output) (outs : List Output) (node : ℕ) (old now : List WorkerRun)
    → slice_get (lanes setup.job) n ≡ Some (lane_at setup.job n) → w
    ≡ (lane_at setup.job n).receiver → node ≡ (nth_worker setup.job w).node → all ≡ out ∷ outs →
    IsInFlight setup rank n t all old now
    → lane_of setup.job (Some w) node out.port out.tuple ≡ None →
    IsInFlight setup rank n t outs old now
skips_at setup rank n w t all out outs node old now there received node_is a way none =
    way_skips setup rank n t out outs old now (subst (λ (xs : List Output). IsInFlight setup rank n
    t xs old now) a way) (sent_from setup.job n w node out there received node_is ∙ none)

pub ends_at : (setup : SetupView) (rank : ℕ → ℕ) (n : ℕ) (t : Tuple) (all : List Output) (old new :
    List WorkerRun) → all ≡ [] → IsInFlight setup rank n t all old new →
    IsDelivered setup rank n t old new
ends_at setup rank n t all old new a way =
    let done : IsInFlight setup rank n t [] old new = subst (λ (xs : List Output). IsInFlight setup
    rank n t xs old new) a way in
    record {
      long = done.long;
      in_force = done.in_force;
      conserved = λ f fed in_flight quiescent
          conserved. done.conserved f fed in_flight quiescent conserved;
      met = done.met;
    }
