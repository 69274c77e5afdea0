-- All lanes are made: each worker has its new endpoints, the feeder has its own, and they match.
use Rattle.std.proofs.Common.{◌≡◌, ◌∙◌, ◌≤◌, ◌+◌, ℕ, zero, suc, List, [], ◌∷◌, ◌++◌, Bool, refl, sym, ap, subst, arith, length, Option, Some, None, slice_get, replicate}
use Rattle.std.specs.Prelude.{All, Err, IfOk, Ok, OnOk, Result}
use Rattle.std.proofs.lemmas.List.Elements.{All-push}
use Rattle.std.proofs.lemmas.Option.{same_Some}
use Rattle.flow_dag.specs.declared.edge.Edge.{Edge}
use Rattle.flow_dag.specs.declared.graph.Graph.{Graph}
use Rattle.jobs.specs.JobView.{JobView}
use Rattle.lane_core.specs.Lane.{EndpointIs, LaneId}
use Rattle.flow_model.specs.Agreement.{IsGraphOf}
use Rattle.flow_model.specs.Lanes.{lanes}
use Rattle.flow_model.specs.declared.topology.Lane.{Lane}
use Rattle.flow_model.specs.Workers.{workers_in}
use Rattle.flow_model.proofs.LaneLemmas.{lane_is}
use Rattle.flow_model.proofs.PlaceLemmas.{append_get, get_left}
use Rattle.flow_worker.specs.Pairs.{EachOne}
use Rattle.flow_worker.specs.Parts.{AreNewEndpoints}
use Rattle.flow_model.specs.NewEndpoint.{IsNewEndpoint}
use Rattle.flow_worker.proofs.Pairs.{each_map}
use Rattle.coordinator.specs.Starts.{AreNewOuts}
use Rattle.flow_crew.specs.Sides.{AreMatched, empty_side, feeder_sends, ins_at, IsAmong, numbers_of, outs_at, side_ins, side_outs, SideIs}
use Rattle.std.proofs.Common.{length-append}
use Rattle.flow_crew.specs.Sorted.{HasLanes, AreAllMarked, AreNewAt, HaveFirstLanes, IsMarked, changed_at, leads_to, leads_from, more_in, with_fed, with_out}
use Rattle.flow_crew.proofs.Numbers.{first_all, first_none}
use Rattle.flow_crew.proofs.Sorting.{each_got, sort_in, sort_out, weaker}

-- ---- an endpoint of a sorted list

module _ (job : JobView) (P : Option ℕ → EndpointIs → Type 0) (Q : ℕ → EndpointIs → Type 0) (i j : ℕ) (all : List SideIs) (fed : List EndpointIs) (h : HaveFirstLanes job P Q i j all fed) where
  pub out_has : (sender : Option ℕ) (x : EndpointIs) → IsAmong (outs_at sender all fed) x → P sender x
  out_has None x (k, g) = each_got (P None) fed k x h.feeder.each g
  out_has (Some w) x (k, g) = go (slice_get all w) refl g
    where
      go : (o : Option SideIs) → slice_get all w ≡ o → slice_get (side_outs o) k ≡ Some x → P (Some w) x
      go None e g = absurd (cc)
      go (Some side) e g = each_got (P (Some w)) side.outs k x (h.outs w side e).each g

  pub in_has : (w : ℕ) (x : EndpointIs) → IsAmong (ins_at w all) x → Q w x
  in_has w x (k, g) = go (slice_get all w) refl g
    where
      go : (o : Option SideIs) → slice_get all w ≡ o → slice_get (side_ins o) k ≡ Some x → Q w x
      go None e g = absurd (cc)
      go (Some side) e g = each_got (Q w) side.ins k x (h.ins w side e).each g

-- ---- the beginning

pub get-replicate : {A : Type 0} (n i : ℕ) (x y : A) → slice_get (replicate n x) i ≡ Some y → y ≡ x
get-replicate zero i x y g = absurd (cc)
get-replicate (suc n) zero x y g = let e : x ≡ y = cc in sym e
get-replicate (suc n) (suc i) x y g = get-replicate n i x y g

length-replicate : {A : Type 0} (n : ℕ) (x : A) → length (replicate n x) ≡ n
length-replicate zero x = refl
length-replicate (suc n) x = ap suc (length-replicate n x)

pub marked_first : (job : JobView) (graph : Graph) (n : ℕ) (all : List SideIs) (fed : List EndpointIs) → n ≡ length (workers_in job) → all ≡ replicate n empty_side → fed ≡ [] → (marks : List LaneId) × AreAllMarked job graph 0 marks all fed
marked_first job graph n all fed e w f = (
  [],
  (
    refl,
    record {
      many = ap length w ∙ (length-replicate n empty_side ∙ e);
      outs = λ k side g. none (leads_from k) side.outs (ap (λ (x : SideIs). x.outs) (empty k side g));
      ins = λ k side g. none (leads_to k) side.ins (ap (λ (x : SideIs). x.ins) (empty k side g));
      feeder = none feeder_sends fed f;
    },
  ),
)
  where
    empty : (k : ℕ) (side : SideIs) → slice_get all k ≡ Some side → side ≡ empty_side
    empty k side g = get-replicate n k empty_side side (ap (λ l. slice_get l k) (sym w) ∙ g)

    none : (test : Lane → Bool) (ends : List EndpointIs) → ends ≡ [] → HasLanes test job (IsMarked job graph []) 0 ends
    none test ends e = record { numbers = ap numbers_of e ∙ sym (first_none test job); each = subst (EachOne (IsMarked job graph [])) (sym e) tt }

-- ---- one lane more

pub mark_lane : (job : JobView) (graph : Graph) (i : ℕ) (marks : List LaneId) (lane : Lane) (tx rx : EndpointIs) (all : List SideIs) (fed : List EndpointIs) → slice_get (lanes job) i ≡ Some lane
    → AreNewAt job graph i (tx ∷ []) → AreNewAt job graph i (rx ∷ []) → tx.lane ≡ rx.lane → AreAllMarked job graph i marks all fed
    → (more : List LaneId) × AreAllMarked job graph (i + 1) more (changed_at (more_in (rx ∷ [])) lane.receiver (with_out lane.sender (tx ∷ []) all)) (with_fed lane.sender (tx ∷ []) fed)
mark_lane job graph i marks lane tx rx all fed at new_tx new_rx same (long, h) = (more, (longer, sorted))
  where
    more : List LaneId
    more = marks ++ tx.lane ∷ []

    longer : length more ≡ i + 1
    longer = length-append marks (tx.lane ∷ []) ∙ ap (λ n. n + 1) long

    kept : (x : EndpointIs) → IsMarked job graph marks x → IsMarked job graph more x
    kept x m = (m.0, get_left marks (tx.lane ∷ []) x.number x.lane m.1)

    last : slice_get more i ≡ Some tx.lane
    last =
        let e : length marks + 0 ≡ i = omega (arith, long) in
        subst (λ n. slice_get (marks ++ tx.lane ∷ []) n ≡ Some tx.lane) e (append_get marks (tx.lane ∷ []) 0 tx.lane refl)

    marked : (x : EndpointIs) → AreNewAt job graph i (x ∷ []) → x.lane ≡ tx.lane → IsMarked job graph more x
    marked x new e = (new.0.1, ap (slice_get more) new.0.0 ∙ (last ∙ ap Some (sym e)))

    wider : HaveFirstLanes job (λ sender. IsMarked job graph more) (λ worker. IsMarked job graph more) i i all fed
    wider = record {
      many = h.many;
      outs = λ w side g. weaker (IsMarked job graph marks) (IsMarked job graph more) side.outs kept (h.outs w side g);
      ins = λ w side g. weaker (IsMarked job graph marks) (IsMarked job graph more) side.ins kept (h.ins w side g);
      feeder = weaker (IsMarked job graph marks) (IsMarked job graph more) fed kept h.feeder;
    }

    sorted : HaveFirstLanes job (λ sender. IsMarked job graph more) (λ worker. IsMarked job graph more) (i + 1) (i + 1) (changed_at (more_in (rx ∷ [])) lane.receiver (with_out lane.sender (tx ∷ []) all)) (with_fed lane.sender (tx ∷ []) fed)
    sorted =
        sort_in job (λ sender. IsMarked job graph more) (λ worker. IsMarked job graph more) i lane at (i + 1) rx (with_out lane.sender (tx ∷ []) all) (with_fed lane.sender (tx ∷ []) fed) new_rx.0.0 (marked rx new_rx (sym same))
        (sort_out job (λ sender. IsMarked job graph more) (λ worker. IsMarked job graph more) i lane at i tx all fed new_tx.0.0 (marked tx new_tx refl) wider)

-- ---- the end

pub marked_worker : (job : JobView) (graph : Graph) (i : ℕ) (marks : List LaneId) (all : List SideIs) (fed : List EndpointIs) (w : ℕ) (side : SideIs) → IsGraphOf job graph → length (lanes job) ≤ i → AreAllMarked job graph i marks all fed → slice_get all w ≡ Some side
    → AreNewEndpoints job w side.ins side.outs
marked_worker job graph i marks all fed w side is le (long, h) g = record {
  graph = graph;
  graph_is = is;
  ins_are = (h.ins w side g).numbers ∙ first_all (leads_to w) job i le;
  new_in = each_map (IsMarked job graph marks) (IsNewEndpoint job graph) side.ins (λ x m. m.0) (h.ins w side g).each;
  outs_are = (h.outs w side g).numbers ∙ first_all (leads_from w) job i le;
  new_out = each_map (IsMarked job graph marks) (IsNewEndpoint job graph) side.outs (λ x m. m.0) (h.outs w side g).each;
}

pub marked_match : (job : JobView) (graph : Graph) (i : ℕ) (marks : List LaneId) (all : List SideIs) (fed : List EndpointIs) → AreAllMarked job graph i marks all fed → AreMatched all fed
marked_match job graph i marks all fed (long, h) sender receiver tx rx a b same =
    let p = out_has job (λ sender. IsMarked job graph marks) (λ worker. IsMarked job graph marks) i i all fed h sender tx a in
    let q = in_has job (λ sender. IsMarked job graph marks) (λ worker. IsMarked job graph marks) i i all fed h receiver rx b in
    same_Some tx.lane rx.lane (sym p.1 ∙ (ap (slice_get marks) same ∙ q.1))

-- the endpoints of the feeder are new
pub marked_feeder : (job : JobView) (graph : Graph) (i : ℕ) (marks : List LaneId) (all : List SideIs) (fed : List EndpointIs) → IsGraphOf job graph → length (lanes job) ≤ i
    → AreAllMarked job graph i marks all fed → AreNewOuts job fed
marked_feeder job graph i marks all fed is le (long, h) = record {
  graph = graph;
  graph_is = is;
  numbers_are = h.feeder.numbers ∙ first_all feeder_sends job i le;
  new = λ k end g. (each_got (IsMarked job graph marks) fed k end h.feeder.each g).0;
}

-- ---- a new endpoint

-- one endpoint more that holds this many items
pub hold_more : {T : Type 0} (capacity : T → ℕ) (old new : List T) (t : T) (n : ℕ) → new ≡ old ++ t ∷ [] → capacity t ≡ n → All (λ end. capacity end ≡ n) old → All (λ end. capacity end ≡ n) new
hold_more {T} capacity old new t n pushed is all = subst (All (λ (end : T). capacity end ≡ n)) (sym pushed) (All-push (λ (end : T). capacity end ≡ n) old t all is)

pub lane_edge : (job : JobView) (i : ℕ) (lane : Lane) → slice_get (lanes job) i ≡ Some lane → (edge : Edge) × (slice_get job.edges lane.edge ≡ Some edge)
lane_edge job i lane at = let is = lane_is job i lane at in (is.edge, is.edge_is)

-- a new endpoint of the lane with a number
pub new_at : (job : JobView) (graph : Graph) (n : ℕ) (lane : Lane) (edge : Edge) (end : EndpointIs) → slice_get (lanes job) n ≡ Some lane → slice_get job.edges lane.edge ≡ Some edge →
    end.items ≡ [] → end.number ≡ n → end.origin ≡ record { graph = graph; from = edge.from } → AreNewAt job graph n (end ∷ [])
new_at job graph n lane edge end at is empty number origin = (
  (
    number,
    record {
      lane = lane;
      edge = edge;
      numbered = subst (λ k. slice_get (lanes job) k ≡ Some lane) (sym number) at;
      edge_is = is;
      origin_is = origin;
      empty = empty;
    },
  ),
  tt,
)

pub both_ok : {A E : Type 0} (P Q : A → Type 0) (r : Result A E) → IfOk r P → IfOk r Q → IfOk r (λ x. P x × Q x)
both_ok P Q (Ok x) p q = (p, q)
both_ok P Q (Err e) p q = tt

pub on_ok : {A E P Q : Type 0} (r : Result A E) → (P → Q) → OnOk r P → OnOk r Q
on_ok (Ok x) f p = f p
on_ok (Err e) f p = p
