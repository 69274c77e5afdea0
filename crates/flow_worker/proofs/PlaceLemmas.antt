-- The lanes of a worker that stands at its place.
use Rattle.std.proofs.Common.{◌≡◌, ◌∙◌, ◌==◌, ◌&&◌, ◌<◌, ℕ, List, [], ◌∷◌, Bool, true, cond, filter, length, map, refl, sym, ap, subst, arith, Some, slice_get, append-nil}
use Rattle.std.specs.List.{enumerate_from, flat_map}
use Rattle.std.proofs.lemmas.Bool.{and_parts, eq-eqb, eqb-true}
use Rattle.jobs.specs.JobView.{JobView}
use Rattle.tuple_trace.specs.declared.tuple.Item.TheVariants.{Mark}
use Rattle.std.proofs.lemmas.Option.{same_Some, slice_get_within}
use Rattle.flow_dag.specs.declared.graph.Graph.{Graph}
use Rattle.flow_model.specs.Covers.{covers_edge}
use Rattle.flow_model.specs.Dues.{edges_in}
use Rattle.flow_worker.specs.Pairs.{EachOne}
use Rattle.flow_model.specs.Lanes.{is_sender, lanes, lanes_out, marked_lanes}
use Rattle.flow_model.specs.declared.topology.Lane.{Lane}
use Rattle.flow_model.specs.SetupView.{SetupView, Worker as WorkerOf}
use Rattle.flow_model.specs.Workers.{nth_worker, workers_in}
use Rattle.flow_model.specs.Replay.{items_on, marker, put_on_each}
use Rattle.flow_model.proofs.ElementLemmas.{AreDistinct, IsIn, filter_in, in_filter, in_of_place, map_in, place_of_in}
use Rattle.flow_model.proofs.LaneLemmas.{in_enumerate, in_lanes_that, lanes_that-distinct, lanes_that_in}
use Rattle.flow_model.proofs.WorkerPlaces.{node_below, nth_worker-get}
use Rattle.flow_model.proofs.WorkerLemmas.{worker_with}
use Rattle.flow_model.proofs.OutLanes.{on_passing, out_distinct}
use Rattle.flow_worker.specs.Endpoints.{LaneInIs, LaneOutIs}
use Rattle.flow_worker.specs.Worker.{IsEndpointIn, IsEndpointOut, IsPlaced, WorkerIs, edges_of, lane_numbers_in}
use Rattle.flow_model.proofs.PlaceLemmas.{map_place}
use Rattle.flow_worker.proofs.Pairs.{each_at, each_map, each_of}

-- the numbered lanes that pass a test, with their numbers
abbrev pub passing : (Lane → Bool) → JobView → List (ℕ × Lane)
passing test job = filter (λ (p : ℕ × Lane). test p.1) (enumerate_from 0 (lanes job))

-- each is the lane with its number, and passes the test
passes : (test : Lane → Bool) (job : JobView) → EachOne (λ (p : ℕ × Lane). (slice_get (lanes job) p.0 ≡ Some p.1) × (test p.1 ≡ true)) (passing test job)
passes test job = each_of (λ (p : ℕ × Lane). (slice_get (lanes job) p.0 ≡ Some p.1) × (test p.1 ≡ true)) (passing test job) (λ p i.
    let f = in_filter (λ (p : ℕ × Lane). test p.1) p (enumerate_from 0 (lanes job)) i in
    let q = in_enumerate 0 (lanes job) p f.0 in
    (subst (λ n. slice_get (lanes job) n ≡ Some p.1) (let a = q.1 in omega arith) q.2, f.1))

-- the edges of lanes at their places are those of the lanes with their numbers
edges_among : (setup : SetupView) (graph : Graph) (ins : List LaneInIs) (ps : List (ℕ × Lane)) → lane_numbers_in ins ≡ map (λ (p : ℕ × Lane). p.0) ps → EachOne (IsEndpointIn setup graph) ins
    → EachOne (λ (p : ℕ × Lane). slice_get (lanes setup.job) p.0 ≡ Some p.1) ps → edges_of ins ≡ map (λ (p : ℕ × Lane). p.1.edge) ps
edges_among setup graph [] [] n e t = refl
edges_among setup graph [] (p ∷ ps) n e t = absurd (cc)
edges_among setup graph (a ∷ more) [] n e t = absurd (cc)
edges_among setup graph (a ∷ more) (p ∷ ps) n e t =
    let number : a.number ≡ p.0 = cc in
    let numbers : lane_numbers_in more ≡ map (λ (p : ℕ × Lane). p.0) ps = cc in
    let there : slice_get (lanes setup.job) a.number ≡ Some p.1 = subst (λ k. slice_get (lanes setup.job) k ≡ Some p.1) (sym number) t.0 in
    let same : e.0.lane ≡ p.1 = same_Some e.0.lane p.1 (sym e.0.numbered ∙ there) in
    let here : a.edge ≡ p.1.edge = e.0.edge_is ∙ ap (λ (l : Lane). l.edge) same in
    ap (λ (k : ℕ). k ∷ edges_of more) here ∙ ap (λ (ks : List ℕ). p.1.edge ∷ ks) (edges_among setup graph more ps numbers e.1 t.1)

module _ (setup : SetupView) (who : WorkerOf) (w : WorkerIs) (k : IsPlaced setup who w) where
  pub number_is : who.number ≡ w.number
  number_is = (worker_with setup.job w.number who k.stands.who_is).0

  pub ins_distinct : AreDistinct (lane_numbers_in w.ins)
  ins_distinct = subst AreDistinct (sym k.ins.are) (lanes_that-distinct (λ (lane : Lane). lane.receiver == w.number) setup.job)

  -- a lane in hand leads to the worker
  pub in_receives : (a : LaneInIs) → IsIn a w.ins → (e : IsEndpointIn setup k.graph a) → e.lane.receiver ≡ who.number
  in_receives a i e =
      let r = in_lanes_that (λ (lane : Lane). lane.receiver == w.number) setup.job a.number (subst (IsIn a.number) k.ins.are (map_in (λ (a : LaneInIs). a.number) a w.ins i)) in
      let x = e.numbered in
      let y = r.1 in
      let same : r.0 ≡ e.lane = cc in
      sym (ap (λ (l : Lane). l.receiver) same) ∙ (eqb-true r.0.receiver w.number r.2 ∙ sym number_is)

  pub in_end : (a : LaneInIs) → IsIn a w.ins → IsEndpointIn setup k.graph a
  in_end a i = each_at (IsEndpointIn setup k.graph) a w.ins k.ins.ends i

  -- it brings the marker where its edge is covered
  pub in_marked : (r : ℕ) (a : LaneInIs) → IsIn a w.ins → covers_edge setup r a.edge ≡ true → IsIn a.number (marked_lanes setup who.number r)
  in_marked r a i c =
      let e = in_end a i in
      let there : (e.lane.receiver == who.number) ≡ true = eq-eqb e.lane.receiver who.number (in_receives a i e) in
      let on : covers_edge setup r e.lane.edge ≡ true = subst (λ n. covers_edge setup r n ≡ true) e.edge_is c in
      lanes_that_in (λ (lane : Lane). (lane.receiver == who.number) && covers_edge setup r lane.edge) setup.job a.number e.lane e.numbered (rw (there, on) refl)

  -- and a lane that brings it is in some hand, on a covered edge
  pub marked_in : (r n : ℕ) → IsIn n (marked_lanes setup who.number r)
      → (place : ℕ) × ((a : LaneInIs) × (slice_get w.ins place ≡ Some a) × (n ≡ a.number) × (covers_edge setup r a.edge ≡ true))
  marked_in r n i =
      let q = in_lanes_that (λ (lane : Lane). (lane.receiver == who.number) && covers_edge setup r lane.edge) setup.job n i in
      let parts = and_parts (q.0.receiver == who.number) (covers_edge setup r q.0.edge) q.2 in
      let there : (q.0.receiver == w.number) ≡ true = subst (λ m. (q.0.receiver == m) ≡ true) number_is parts.0 in
      let among : IsIn n (lane_numbers_in w.ins) = subst (IsIn n) (sym k.ins.are) (lanes_that_in (λ (lane : Lane). lane.receiver == w.number) setup.job n q.0 q.1 there) in
      let place = place_of_in n (lane_numbers_in w.ins) among in
      let at = map_place (λ (a : LaneInIs). a.number) w.ins place.0 n place.1 in
      let e = in_end at.0 (in_of_place at.0 w.ins place.0 at.1) in
      let x : slice_get (lanes setup.job) n ≡ Some e.lane = subst (λ m. slice_get (lanes setup.job) m ≡ Some e.lane) (sym at.2) e.numbered in
      let y = q.1 in
      let same : q.0 ≡ e.lane = cc in
      let edge : q.0.edge ≡ at.0.edge = ap (λ (l : Lane). l.edge) same ∙ sym e.edge_is in
      (place.0, (at.0, at.1, at.2, subst (λ m. covers_edge setup r m ≡ true) edge parts.1))

  -- a lane out leads from the worker
  pub out_sends : (o : LaneOutIs) → IsIn o w.outs → (lane : Lane) → slice_get (lanes setup.job) o.number ≡ Some lane → IsIn lane (lanes_out setup.job who.number)
  out_sends o i lane g =
      let r = in_lanes_that (λ (lane : Lane). is_sender w.number lane.sender) setup.job o.number (subst (IsIn o.number) k.outs.are (map_in (λ (o : LaneOutIs). o.number) o w.outs i)) in
      let y = r.1 in
      let same : r.0 ≡ lane = cc in
      let sends : is_sender who.number lane.sender ≡ true = subst (λ (l : Lane). is_sender who.number l.sender ≡ true) same (subst (λ m. is_sender m r.0.sender ≡ true) (sym number_is) r.2) in
      filter_in (λ (lane : Lane). is_sender who.number lane.sender) lane (lanes setup.job) (in_of_place lane (lanes setup.job) o.number g) sends

  pub out_lane_edge : (o : LaneOutIs) → IsIn o w.outs → (lane : Lane) → slice_get (lanes setup.job) o.number ≡ Some lane → lane.edge ≡ o.edge
  out_lane_edge o i lane g =
      let e = each_at (IsEndpointOut setup k.graph w.node) o w.outs k.outs.ends i in
      let x = e.numbered in
      let same : e.lane ≡ lane = cc in
      ap (λ (l : Lane). l.edge) (sym same) ∙ sym e.edge_is

-- the edges of the lanes in are those of the setup
pub placed_edges : (setup : SetupView) (who : WorkerOf) (w : WorkerIs) → IsPlaced setup who w → edges_of w.ins ≡ edges_in setup.job w.number
placed_edges setup who w k =
    edges_among setup k.graph w.ins (passing (λ (lane : Lane). lane.receiver == w.number) setup.job) k.ins.are k.ins.ends
    (each_map _ _ (passing (λ (lane : Lane). lane.receiver == w.number) setup.job) (λ p h. h.0) (passes (λ (lane : Lane). lane.receiver == w.number) setup.job))

-- and so is its node
pub placed_node : (setup : SetupView) (who : WorkerOf) (w : WorkerIs) → IsPlaced setup who w → (nth_worker setup.job w.number).node ≡ w.node
placed_node setup who w k = ap (λ (p : WorkerOf). p.node) (nth_worker-get setup.job w.number who k.stands.who_is) ∙ sym k.stands.node_is

pub placed_within : (setup : SetupView) (who : WorkerOf) (w : WorkerIs) → IsPlaced setup who w → w.number < length (workers_in setup.job)
placed_within setup who w k = slice_get_within (workers_in setup.job) w.number who k.stands.who_is

pub placed_below : (setup : SetupView) (who : WorkerOf) (w : WorkerIs) → IsPlaced setup who w → w.node < length setup.job.nodes
placed_below setup who w k = subst (λ n. n < length setup.job.nodes) (placed_node setup who w k) (node_below setup.job w.number (placed_within setup who w k))

-- what a turn puts on a lane out
pub turn_puts : (setup : SetupView) (w r cover : ℕ) (lane : Lane) → marker setup r ≡ Mark r cover ∷ [] → IsIn lane (lanes_out setup.job w)
    → items_on lane (flat_map (λ mark. put_on_each mark (filter (λ (lane : Lane). covers_edge setup r lane.edge) (lanes_out setup.job w))) (marker setup r))
    ≡ cond (covers_edge setup r lane.edge) (Mark r cover ∷ []) []
turn_puts setup w r cover lane m i =
    rw (m, append-nil (put_on_each (Mark r cover) (filter (λ (lane : Lane). covers_edge setup r lane.edge) (lanes_out setup.job w))))
    (on_passing (λ (lane : Lane). covers_edge setup r lane.edge) (Mark r cover) lane (lanes_out setup.job w) (out_distinct setup.job w) i)
