-- Workers and a feeder with their laws have the endpoints of all lanes.
use Rattle.std.proofs.Common.{◌≡◌, ◌∙◌, ◌≤◌, ℕ, zero, suc, List, [], ◌∷◌, refl, sym, ap, subst, arith, length, map, filter, Some, slice_get}
use Rattle.std.specs.List.{enumerate_from}
use Rattle.std.proofs.lemmas.List.{length-map}
use Rattle.jobs.specs.JobView.{JobView}
use Rattle.sink_journal.specs.declared.journal.Feed.{Feed}
use Rattle.tuple_trace.specs.declared.row.Row.{Row}
use Rattle.flow_model.specs.Begin.{Begin}
use Rattle.flow_model.specs.Lanes.{lanes, lanes_in, lanes_that, out_numbers}
use Rattle.flow_model.specs.declared.topology.Lane.{Lane}
use Rattle.flow_model.specs.SetupView.{SetupView}
use Rattle.flow_model.proofs.ElementLemmas.{in_filter, in_of_place}
use Rattle.flow_model.proofs.LaneLemmas.{in_enumerate, same_number}
use Rattle.flow_worker.specs.Endpoints.{LaneOutIs}
use Rattle.flow_worker.specs.Pairs.{EachOne}
use Rattle.flow_worker.specs.Parts.{endpoint_out}
use Rattle.lane_core.specs.Lane.{EndpointIs}
use Rattle.flow_worker.specs.Worker.{WorkerIs, lane_numbers_out}
use Rattle.flow_model.proofs.PlaceLemmas.{map_place}
use Rattle.sink_journal.proofs.SmallLemmas.{get_mapped}
use Rattle.coordinator.specs.Feeding.{fed_lanes}
use Rattle.flow_crew.specs.Ended.{IsOver}
use Rattle.flow_crew.specs.Sides.{AreMatched, HaveAllLanes, SideIs, feeder_sends, numbers_of, worker_side}
use Rattle.flow_crew.proofs.Crewing.{same_in}
use Rattle.flow_crew.proofs.Sorting.{each_placed}
use Rattle.coordinator.proofs.Starting.{numbered}

same_out : (outs : List LaneOutIs) → numbers_of (map endpoint_out outs) ≡ lane_numbers_out outs
same_out [] = refl
same_out (a ∷ outs) = ap (λ l. a.number ∷ l) (same_out outs)

-- two lists with the same items
same_lists : {A : Type 0} (xs ys : List A) → length xs ≡ length ys → ((k : ℕ) (x y : A) → slice_get xs k ≡ Some x → slice_get ys k ≡ Some y → x ≡ y) → xs ≡ ys
same_lists [] [] e f = refl
same_lists [] (y ∷ ys) e f = absurd (omega (arith, e))
same_lists (x ∷ xs) [] e f = absurd (omega (arith, e))
same_lists (x ∷ xs) (y ∷ ys) e f = λ i. f zero x y refl refl i ∷ same_lists xs ys (omega (arith, e)) (λ k a b g h. f (suc k) a b g h) i

-- the numbers of the lanes of the feeder, by the lanes themselves
fed_numbers : (job : JobView) (ns : List ℕ) → length ns ≡ length (fed_lanes job) → ((k n : ℕ) (lane : Lane) → slice_get ns k ≡ Some n → slice_get (fed_lanes job) k ≡ Some lane → slice_get (lanes job) n ≡ Some lane) → ns ≡ lanes_that feeder_sends job
fed_numbers job ns many at = same_lists ns (lanes_that feeder_sends job) long same
  where
    among : List (ℕ × Lane)
    among = filter (λ (p : ℕ × Lane). feeder_sends p.1) (enumerate_from 0 (lanes job))

    long : length ns ≡ length (lanes_that feeder_sends job)
    long =
        many ∙ (ap (λ (l : List Lane). length l) (numbered feeder_sends 0 (lanes job))
        ∙ (length-map among (λ (p : ℕ × Lane). p.1) ∙ sym (length-map among (λ (p : ℕ × Lane). p.0))))

    same : (k n m : ℕ) → slice_get ns k ≡ Some n → slice_get (lanes_that feeder_sends job) k ≡ Some m → n ≡ m
    same k n m g h =
        let (p, there, number) = map_place (λ (p : ℕ × Lane). p.0) among k m h in
        let lane : slice_get (fed_lanes job) k ≡ Some p.1 = ap (λ (l : List Lane). slice_get l k) (numbered feeder_sends 0 (lanes job)) ∙ get_mapped (λ (p : ℕ × Lane). p.1) among k p there in
        let i = in_enumerate 0 (lanes job) p (in_filter (λ (p : ℕ × Lane). feeder_sends p.1) p (enumerate_from 0 (lanes job)) (in_of_place p among k there)).0 in
        let e : i.0 ≡ m = omega (arith, i.1, number) in
        same_number job p.1 p.1 n m (at k n p.1 g lane) (subst (λ j. slice_get (lanes job) j ≡ Some p.1) e i.2) refl

module _ (setup : SetupView) (begin : Begin) (rows : List Row) (workers : List WorkerIs) (feeds : List Feed) (outs : List EndpointIs) (over : IsOver setup begin rows workers feeds outs) where
  pub have_all : HaveAllLanes setup.job (map worker_side workers) outs
  have_all = record {
    many = length-map workers worker_side ∙ over.crew.many;
    ins = λ w side g.
        let (worker, at, e) = map_place worker_side workers w side g in
        ap (λ (s : SideIs). numbers_of s.ins) e ∙ (same_in worker.ins ∙ ((over.crew.law w worker at).placed.ins.are ∙ ap (lanes_in setup.job) (over.crew.number w worker at)));
    outs = λ w side g.
        let (worker, at, e) = map_place worker_side workers w side g in
        ap (λ (s : SideIs). numbers_of s.outs) e ∙ (same_out worker.outs ∙ ((over.crew.law w worker at).placed.outs.are ∙ ap (out_numbers setup.job) (over.crew.number w worker at)));
    feeder = fed_numbers setup.job (numbers_of outs) long numbered;
  }
    where
      long : length (numbers_of outs) ≡ length (fed_lanes setup.job)
      long =
          length-map outs (λ (x : EndpointIs). x.number)
          ∙ (ap (λ (l : List EndpointIs). length l) over.outs_are ∙ over.feeding.lanes.outs_are)

      numbered : (k n : ℕ) (lane : Lane) → slice_get (numbers_of outs) k ≡ Some n → slice_get (fed_lanes setup.job) k ≡ Some lane → slice_get (lanes setup.job) n ≡ Some lane
      numbered k n lane g h =
          let (x, at, e) = map_place (λ (x : EndpointIs). x.number) outs k n g in
          let there = ap (λ l. slice_get l k) (sym over.outs_are) ∙ at in
          let is = over.feeding.lanes.outs k lane x h there in
          ap (slice_get (lanes setup.job)) e ∙ is.endpoint.numbered

  pub room_in : EachOne (λ (w : WorkerIs). length w.ins ≤ w.spare_in) workers
  room_in = each_placed (λ (w : WorkerIs). length w.ins ≤ w.spare_in) workers (λ k w g. (over.crew.law k w g).placed.ins.room)

  pub room_out : EachOne (λ (w : WorkerIs). length w.outs ≤ w.spare_out) workers
  room_out = each_placed (λ (w : WorkerIs). length w.outs ≤ w.spare_out) workers (λ k w g. (over.crew.law k w g).placed.outs.room)

  -- the same of the endpoints as code has them
  pub have_so : (job : JobView) (sides : List SideIs) → setup.job ≡ job → sides ≡ map worker_side workers → HaveAllLanes job sides outs
  have_so job sides e s =
      subst (λ (xs : List SideIs). HaveAllLanes job xs outs) (sym s) (subst (λ (j : JobView). HaveAllLanes j (map worker_side workers) outs) e have_all)

  pub matched_so : (sides : List SideIs) → sides ≡ map worker_side workers → AreMatched sides outs
  matched_so sides s = subst (λ (xs : List SideIs). AreMatched xs outs) (sym s) over.matched
