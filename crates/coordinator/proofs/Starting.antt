-- The law at the beginning.
use Rattle.std.proofs.Common.{◌≡◌, ◌∙◌, ◌+◌, ◌≤◌, ℕ, zero, suc, List, [], ◌∷◌, refl, sym, subst, ap, true, false, Bool, cond, arith, length, map, filter, None, Some, slice_get}
use Rattle.std.specs.List.{enumerate_from}
use Rattle.std.specs.Prelude.{replicate}
use Rattle.std.proofs.lemmas.List.{length-map}
use Rattle.std.proofs.lemmas.Option.{same_Some}
use Rattle.control_box.specs.Endpoints.{PosterIs}
use Rattle.jobs.specs.JobView.{JobView}
use Rattle.sink_journal.specs.declared.journal.Feed.{Feed}
use Rattle.sink_journal.proofs.SmallLemmas.{get_mapped}
use Rattle.tuple_trace.specs.declared.row.Row.{Row}
use Rattle.flow_model.specs.Begin.{Begin}
use Rattle.flow_model.specs.Lanes.{is_same_sender, lanes, lanes_that}
use Rattle.flow_model.specs.SetupView.{SetupView}
use Rattle.flow_model.specs.declared.topology.Lane.{Lane}
use Rattle.flow_model.proofs.ElementLemmas.{in_filter, in_of_place}
use Rattle.flow_model.proofs.LaneLemmas.{in_enumerate}
use Rattle.coordinator.specs.Views.{BoxesIs, FeederIs}
use Rattle.lane_core.specs.Lane.{EndpointIs}
use Rattle.coordinator.specs.Feeding.{AreRising, IsFeeding, fed_lanes, places_of}
use Rattle.coordinator.specs.Starts.{AreNewOuts, AreUnused}
use Rattle.flow_model.specs.NewEndpoint.{IsNewEndpoint}
use Rattle.coordinator.specs.Boxes.{AreBoxes}
use Rattle.coordinator.proofs.Issuing.{first_boxes}
use Rattle.coordinator.proofs.Keeping.{no_end, none_ended}

abbrev pub new_feeder : List Feed → List EndpointIs → BoxesIs → List ℕ → ℕ → ℕ → FeederIs
new_feeder feeds outs boxes places row turned = record {
  feeds = feeds;
  outs = outs;
  boxes = boxes;
  begin_row = row;
  begin_turned = turned;
  row = row;
  issued = turned;
  ended = 0;
  stopped = false;
  held = None;
  places = places;
  loads = [];
}

-- the lanes that pass a test, with their numbers
pub numbered : (test : Lane → Bool) (n : ℕ) (ls : List Lane) → filter test ls ≡ map (λ (p : ℕ × Lane). p.1) (filter (λ (p : ℕ × Lane). test p.1) (enumerate_from n ls))
numbered test n [] = refl
numbered test n (l ∷ ls) = go (test l) (numbered test (n + 1) ls)
  where
    go : (b : Bool) → filter test ls ≡ map (λ (p : ℕ × Lane). p.1) (filter (λ (p : ℕ × Lane). test p.1) (enumerate_from (n + 1) ls))
        → cond b (l ∷ filter test ls) (filter test ls) ≡ map (λ (p : ℕ × Lane). p.1) (cond b ((n, l) ∷ filter (λ (p : ℕ × Lane). test p.1) (enumerate_from (n + 1) ls)) (filter (λ (p : ℕ × Lane). test p.1) (enumerate_from (n + 1) ls)))
    go true h = ap (λ t. l ∷ t) h
    go false h = h

map_get : {A B : Type 0} (f : A → B) (xs : List A) (k : ℕ) (y : B) → slice_get (map f xs) k ≡ Some y → (x : A) × (slice_get xs k ≡ Some x) × (f x ≡ y)
map_get f [] k y h = absurd (cc)
map_get f (x ∷ xs) zero y h = (x, refl, same_Some (f x) y h)
map_get f (x ∷ xs) (suc k) y h = map_get f xs k y h

-- the end at a place has the number of the lane at that place
number_at : (job : JobView) (outs : List EndpointIs) (k : ℕ) (lane : Lane) (out : EndpointIs) → map (λ (o : EndpointIs). o.number) outs ≡ lanes_that (λ (l : Lane). is_same_sender None l.sender) job
    → slice_get (fed_lanes job) k ≡ Some lane → slice_get outs k ≡ Some out → slice_get (lanes job) out.number ≡ Some lane
number_at job outs k lane out are g h =
    let test : Lane → Bool = λ l. is_same_sender None l.sender in
    let among : List (ℕ × Lane) = filter (λ (p : ℕ × Lane). test p.1) (enumerate_from 0 (lanes job)) in
    let a : slice_get (map (λ (p : ℕ × Lane). p.0) among) k ≡ Some out.number = ap (λ (l : List ℕ). slice_get l k) (sym are) ∙ get_mapped (λ (o : EndpointIs). o.number) outs k out h in
    let p = map_get (λ (p : ℕ × Lane). p.0) among k out.number a in
    let b : slice_get (map (λ (p : ℕ × Lane). p.1) among) k ≡ Some lane = ap (λ (l : List Lane). slice_get l k) (sym (numbered test 0 (lanes job))) ∙ g in
    let q : p.0.1 ≡ lane = same_Some p.0.1 lane (sym (get_mapped (λ (p : ℕ × Lane). p.1) among k p.0 p.1) ∙ b) in
    let i = in_enumerate 0 (lanes job) p.0 (in_filter (λ (p : ℕ × Lane). test p.1) p.0 (enumerate_from 0 (lanes job)) (in_of_place p.0 among k p.1)).0 in
    let at : i.0 ≡ out.number = omega (arith, i.1, p.2) in
    subst (λ n. slice_get (lanes job) n ≡ Some lane) at (i.2 ∙ ap Some q)

as_many : (job : JobView) (outs : List EndpointIs) → map (λ (o : EndpointIs). o.number) outs ≡ lanes_that (λ (l : Lane). is_same_sender None l.sender) job → length outs ≡ length (fed_lanes job)
as_many job outs are =
    let test : Lane → Bool = λ l. is_same_sender None l.sender in
    let among : List (ℕ × Lane) = filter (λ (p : ℕ × Lane). test p.1) (enumerate_from 0 (lanes job)) in
    sym (length-map outs (λ (o : EndpointIs). o.number)) ∙ (ap (λ (l : List ℕ). length l) are ∙ (length-map among (λ (p : ℕ × Lane). p.0)
    ∙ (sym (length-map among (λ (p : ℕ × Lane). p.1)) ∙ ap (λ (l : List Lane). length l) (sym (numbered test 0 (lanes job))))))

law_first : (setup : SetupView) (begin : Begin) (xs : List ℕ) (rows : List Row) (outs : List EndpointIs) (b : BoxesIs) (places : List ℕ) → places ≡ places_of setup.job → AreRising 0 xs → begin.turned ≤ length xs → AreNewOuts setup.job outs → AreBoxes setup begin.turned begin.turned b
    → IsFeeding setup begin xs rows (new_feeder [] outs b places begin.row begin.turned)
law_first setup begin xs rows outs b places at o le are boxes = record {
  begun = record {
    row_begun = refl;
    turned_begun = refl;
    graph = are.graph;
    graph_is = are.graph_is;
    places_are = at;
  };
  course = record {
    in_order = o;
    issued_within = le;
    counted = omega arith;
    going = λ _. refl;
    stopped = λ t. absurd (cc);
  };
  lanes = record {
    outs_are = as_many setup.job outs are.numbers_are;
    outs = λ k lane out g h.
        let new : IsNewEndpoint setup.job are.graph out = are.new k out h in
        let n = number_at setup.job outs k lane out are.numbers_are g h in
        let same : new.lane ≡ lane = same_Some new.lane lane (sym new.numbered ∙ n) in
        record {
          endpoint = record {
            edge = new.edge;
            numbered = n;
            edge_is = ap (λ (l : Lane). slice_get setup.job.edges l.edge) (sym same) ∙ new.edge_is;
            origin_is = new.origin_is;
          };
          sent_is = new.empty ∙ sym (no_end k 0 (omega arith));
        };
  };
  ended = none_ended (omega arith) refl;
  boxes = boxes;
  held = λ t row h g. absurd (cc);
}

pub begins : (setup : SetupView) (begin : Begin) (xs : List ℕ) (rows : List Row) (fs : List Feed) (outs os : List EndpointIs) (b : BoxesIs) (ps : List PosterIs) (places : List ℕ) (row turned : ℕ) → places ≡ places_of setup.job → fs ≡ [] → outs ≡ os
    → b ≡ record { posters = ps; covered = replicate (length ps) 0; ready = 0 } → begin.row ≡ row → begin.turned ≡ turned
    → AreRising 0 xs → turned ≤ length xs → AreNewOuts setup.job os → AreUnused setup ps → IsFeeding setup begin xs rows (new_feeder fs outs b places row turned)
begins setup begin xs rows fs outs os b ps places row turned at a e f d t o le are unused =
    subst (λ r. IsFeeding setup begin xs rows (new_feeder fs outs b places r turned)) d
    (subst (λ t. IsFeeding setup begin xs rows (new_feeder fs outs b places begin.row t)) t
    (subst (λ (x : List Feed). IsFeeding setup begin xs rows (new_feeder x outs b places begin.row begin.turned)) (sym a)
    (law_first setup begin xs rows outs b places at o (subst (λ t. t ≤ length xs) (sym t) le) (subst (AreNewOuts setup.job) (sym e) are)
    (first_boxes setup begin.turned b ps f unused.0 (λ w p g. (unused.1 w p g).0)))))
