-- The edges out of a worker's node, and the places of its lanes along them.
use Rattle.std.proofs.Common.{◌≡◌, ◌∙◌, ◌+◌, ◌==◌, ◌<◌, ◌≤◌, ℕ, zero, suc, List, [], ◌∷◌, ◌++◌, inl, inr, Bool, true, false, cond, map, filter, drop, length, get_or, refl, sym, ap, subst, arith, Some, None, Option, slice_get}
use Rattle.std.specs.Prelude.{option_map}
use Rattle.std.specs.List.{enumerate_from, flat_map}
use Rattle.std.proofs.lemmas.List.{length-map}
use Rattle.std.proofs.lemmas.Bool.Decides.{nat_tests}
use Rattle.std.proofs.lemmas.Option.{slice_get_within}
use Rattle.flow_dag.specs.declared.edge.Edge.{Edge}
use Rattle.jobs.specs.Law.{IsLawful}
use Rattle.jobs.specs.JobView.{JobView}
use Rattle.operators.specs.Lanes.{worker_along, worker_at, worker_for}
use Rattle.tuple_trace.specs.declared.tuple.Tuple.{Tuple}
use Rattle.flow_model.specs.Lanes.{first_on, is_sender, lane_along, lane_of, lanes, lanes_out, out_numbers}
use Rattle.flow_model.specs.declared.topology.Lane.{Lane}
use Rattle.flow_model.specs.SetupView.{Worker as WorkerOf}
use Rattle.flow_model.specs.Workers.{workers_in, workers_at_node}
use Rattle.flow_model.proofs.WorkerListLemmas.{length-workers_at_node, who_by}
use Rattle.flow_model.proofs.ElementLemmas.{IsIn, in_filter, in_of_place}
use Rattle.flow_model.proofs.LaneLemmas.{in_enumerate}
use Rattle.flow_model.proofs.LaneLemmas.{lanes_from as lanes_row}
use Rattle.flow_model.specs.Topology.{first_with, out_edge, out_edges, first_worker}
use Rattle.flow_model.specs.declared.topology.OutEdge.{OutEdge}
use Rattle.flow_worker.proofs.OutLanes.{lanes_out-rows}
use Rattle.flow_model.proofs.RouteLemmas.{IsReached, found_out, is_reached, no_out}
use Rattle.flow_worker.specs.Steps.{place_from}
use Rattle.sink_journal.proofs.SmallLemmas.{get_mapped}
use Rattle.flow_worker.proofs.Pairs.{front}
use Rattle.flow_model.proofs.PlaceLemmas.{get_left, map_place}

-- ---- the edges out

exit_edge : (job : JobView) (node i : ℕ) (exit : OutEdge) → slice_get (out_edges job node) i ≡ Some exit → exit.edge < length job.edges
exit_edge job node i exit g =
    let p = map_place (out_edge job) (filter (λ (p : ℕ × Edge). p.1.from == node) (enumerate_from 0 job.edges)) i exit g in
    let q = in_enumerate 0 job.edges p.0 (in_filter (λ (p : ℕ × Edge). p.1.from == node) p.0 (enumerate_from 0 job.edges) (in_of_place p.0 (filter (λ (p : ℕ × Edge). p.1.from == node) (enumerate_from 0 job.edges)) i p.1)).0 in
    let number : exit.edge ≡ p.0.0 = ap (λ (x : OutEdge). x.edge) p.2 in
    omega (arith, number, q.1, slice_get_within job.edges q.0 p.0.1 q.2)

pub edge_within : (job : JobView) (node i : ℕ) (exits : List OutEdge) (d : OutEdge) → exits ≡ out_edges job node → i < length exits → (get_or exits i d).edge < length job.edges
edge_within job node i exits d same l = exit_edge job node i (get_or exits i d) (subst (λ xs. slice_get xs i ≡ Some (get_or exits i d)) same (there exits i l))
  where
    there : (xs : List OutEdge) (i : ℕ) → i < length xs → slice_get xs i ≡ Some (get_or xs i d)
    there [] i l = absurd (omega arith)
    there (x ∷ xs) zero l = refl
    there (x ∷ xs) (suc i) l = there xs i (omega arith)

-- along an edge with one receiver each tuple comes to that one
pub one_receiver : (job : JobView) (node i : ℕ) (exits : List OutEdge) (d : OutEdge) (tuple : Tuple) → IsLawful job → exits ≡ out_edges job node → i < length exits
    → (get_or exits i d).receivers ≡ 1 → worker_along job (get_or exits i d).edge tuple ≡ 0
one_receiver job node i exits d tuple law same l one =
    let exit : OutEdge = get_or exits i d in
    let edges : List (ℕ × Edge) = filter (λ (p : ℕ × Edge). p.1.from == node) (enumerate_from 0 job.edges) in
    let p = map_place (out_edge job) edges i exit (subst (λ xs. slice_get xs i ≡ Some exit) same (there exits i l)) in
    let q = in_enumerate 0 job.edges p.0 (in_filter (λ (p : ℕ × Edge). p.1.from == node) p.0 (enumerate_from 0 job.edges) (in_of_place p.0 edges i p.1)).0 in
    let at : slice_get job.edges p.0.0 ≡ Some p.0.1 = subst (λ n. slice_get job.edges n ≡ Some p.0.1) (let e = q.1 in omega (arith, e)) q.2 in
    let reached = is_reached job p.0.0 p.0.1 tuple (worker_along job p.0.0 tuple) law at refl in
    let number : exit.edge ≡ p.0.0 = ap (λ (x : OutEdge). x.edge) p.2 in
    let many : exit.receivers ≡ length (workers_at_node job p.0.1.to) = ap (λ (x : OutEdge). x.receivers) p.2 in
    let all = length-workers_at_node job p.0.1.to reached.def reached.node_is in
    let below = reached.below in
    ap (λ n. worker_along job n tuple) number ∙ omega (arith, below, many, all, one)
  where
    there : (xs : List OutEdge) (i : ℕ) → i < length xs → slice_get xs i ≡ Some (get_or xs i d)
    there [] i l = absurd (omega arith)
    there (x ∷ xs) zero l = refl
    there (x ∷ xs) (suc i) l = there xs i (omega arith)

-- so the place of its one lane is where its lanes begin
pub only_place : (job : JobView) (node i : ℕ) (exits : List OutEdge) (d : OutEdge) (port first : ℕ) (tuple : Tuple) → IsLawful job → exits ≡ out_edges job node → i < length exits
    → (get_or exits i d).port ≡ port → (get_or exits i d).receivers ≡ 1 → Some first ≡ place_from job first (drop i exits) port tuple
only_place job node i exits d port first tuple law same l p one =
    let exit : OutEdge = get_or exits i d in
    let t : (exit.port == port) ≡ true = grind (arith, p, nat_tests) in
    let z = one_receiver job node i exits d tuple law same l one in
    let e : Some first ≡ Some (first + worker_along job exit.edge tuple) = ap Some (omega (arith, z)) in
    let f : place_from job first (exit ∷ drop (i + 1) exits) port tuple ≡ Some (first + worker_along job exit.edge tuple) = rw t refl in
    e ∙ (sym f ∙ ap (λ xs. place_from job first xs port tuple) (sym (front exits i d l)))

pub outs_few : (job : JobView) (node : ℕ) (exits : List OutEdge) → IsLawful job → exits ≡ out_edges job node → length exits ≤ 128
outs_few job node exits law same =
    omega (arith, ap length same, length-map (filter (λ (p : ℕ × Edge). p.1.from == node) (enumerate_from 0 job.edges)) (out_edge job), fewer (λ (p : ℕ × Edge). p.1.from == node) (enumerate_from 0 job.edges), numbered 0 job.edges, law.limits.edges)
  where
    fewer : {A : Type 0} (test : A → Bool) (xs : List A) → length (filter test xs) ≤ length xs
    fewer test [] = omega arith
    fewer test (x ∷ xs) = go (test x) (fewer test xs)
      where
        go : (b : Bool) → length (filter test xs) ≤ length xs → length (cond b (x ∷ filter test xs) (filter test xs)) ≤ suc (length xs)
        go true l = omega arith
        go false l = omega arith

    numbered : {A : Type 0} (m : ℕ) (xs : List A) → length (enumerate_from m xs) ≡ length xs
    numbered m [] = refl
    numbered m (x ∷ xs) = ap suc (numbered (m + 1) xs)

-- ---- places of lanes

-- the lane of a sender to a worker along an edge that comes with its number
abbrev lane_to : Option ℕ → ℕ × Edge → WorkerOf → Lane
lane_to sender p who = record { edge = p.0; sender = sender; receiver = who.number }

abbrev rows : JobView → Option ℕ → List (ℕ × Edge) → List Lane
rows job sender edges = flat_map (λ (p : ℕ × Edge). lanes_row job p.0 p.1 sender) edges

back_part : {A : Type 0} (xs ys : List A) (n k : ℕ) (x : A) → length xs ≡ n → slice_get ys k ≡ Some x → slice_get (xs ++ ys) (n + k) ≡ Some x
back_part [] ys n k x l g = subst (λ m. slice_get ys m ≡ Some x) (omega arith) g
back_part (y ∷ xs) ys zero k x l g = absurd (omega arith)
back_part (y ∷ xs) ys (suc n) k x l g =
    subst (λ m. slice_get (y ∷ (xs ++ ys)) m ≡ Some x) (next n k) (back_part xs ys n k x (omega arith) g)
  where
    next : (n k : ℕ) → suc (n + k) ≡ suc n + k
    next n k = omega arith

-- what was found on a port: an edge, and the lane along it at its place
record Found (job : JobView) (sender : Option ℕ) (first port : ℕ) (tuple : Tuple) (edges : List (ℕ × Edge)) (place : ℕ) : Type 0 where
  at : ℕ × Edge
  by : first_with port (map (out_edge job) edges) ≡ Some (out_edge job at)
  there : slice_get job.edges at.0 ≡ Some at.1
  lane : Lane
  along : lane_along job sender (Some at) tuple ≡ Some lane
  k : ℕ
  place_is : place ≡ first + k
  stands : slice_get (rows job sender edges) k ≡ Some lane

found_at : (job : JobView) (sender : Option ℕ) (law : IsLawful job) (first port : ℕ) (tuple : Tuple) (edges : List (ℕ × Edge)) (place : ℕ)
    → ((p : ℕ × Edge) → IsIn p edges → slice_get job.edges p.0 ≡ Some p.1) → place_from job first (map (out_edge job) edges) port tuple ≡ Some place → Found job sender first port tuple edges place
found_at job sender law first port tuple [] place f e = absurd (cc)
found_at job sender law first port tuple (p ∷ edges) place f e =
    go (p.1.port == port) refl e (λ q. found_at job sender law (first + length (workers_at_node job p.1.to)) port tuple edges place (λ x i. f x (inr i)) q)
  where
    there : slice_get job.edges p.0 ≡ Some p.1
    there = f p (inl refl)

    worker : ℕ
    worker = worker_along job p.0 tuple

    reached : IsReached job p.1 tuple worker
    reached = is_reached job p.0 p.1 tuple worker law there refl

    to : WorkerOf
    to = who_by (first_worker job p.1.to + worker) p.1.to reached.def.func worker

    same : worker ≡ worker_at job.columns (slice_get job.nodes p.1.to) tuple
    same = ap (λ (o : Option Edge). worker_for job o tuple) there

    long : length (lanes_row job p.0 p.1 sender) ≡ length (workers_at_node job p.1.to)
    long = length-map (workers_at_node job p.1.to) (λ (who : WorkerOf). lane_to sender p who)

    go : (b : Bool) → (p.1.port == port) ≡ b → cond b (Some (first + worker)) (place_from job (first + length (workers_at_node job p.1.to)) (map (out_edge job) edges) port tuple) ≡ Some place
        → (place_from job (first + length (workers_at_node job p.1.to)) (map (out_edge job) edges) port tuple ≡ Some place → Found job sender (first + length (workers_at_node job p.1.to)) port tuple edges place)
        → Found job sender first port tuple (p ∷ edges) place
    go true q e rec = record {
      at = p;
      by = rw q refl;
      there = there;
      lane = lane_to sender p to;
      along = ap (option_map (λ (who : WorkerOf). lane_to sender p who)) reached.reached;
      k = worker;
      place_is = let r : first + worker ≡ place = cc in sym r;
      stands = get_left (lanes_row job p.0 p.1 sender) (rows job sender edges) worker (lane_to sender p to)
          (get_mapped (λ (who : WorkerOf). lane_to sender p who) (workers_at_node job p.1.to) worker to (ap (slice_get (workers_at_node job p.1.to)) same ∙ reached.reached));
    }
    go false q e rec =
        let r = rec e in
        record {
          at = r.at;
          by = rw q r.by;
          there = r.there;
          lane = r.lane;
          along = r.along;
          k = length (workers_at_node job p.1.to) + r.k;
          place_is = omega (arith, r.place_is);
          stands = back_part (lanes_row job p.0 p.1 sender) (rows job sender edges) (length (workers_at_node job p.1.to)) r.k r.lane long r.stands;
        }

-- the lane of an output stands at the place that was found
pub route : (job : JobView) (who : WorkerOf) (port : ℕ) (tuple : Tuple) (place : ℕ) → IsLawful job → slice_get (workers_in job) who.number ≡ Some who
    → place_from job 0 (out_edges job who.node) port tuple ≡ Some place
    → (lane : Lane) × (lane_of job (Some who.number) who.node port tuple ≡ Some lane) × (slice_get (lanes_out job who.number) place ≡ Some lane)
route job who port tuple place law there e =
    let edges : List (ℕ × Edge) = filter (λ (p : ℕ × Edge). p.1.from == who.node) (enumerate_from 0 job.edges) in
    let f = found_at job (Some who.number) law 0 port tuple edges place (λ p i. listed p i) e in
    let is = found_out job who.node port (out_edges job who.node) (out_edge job f.at) refl (sym f.by) in
    let x = is.edge_is in
    let y = f.there in
    let same : is.edge ≡ f.at.1 = cc in
    let first : first_on who.node port (enumerate_from 0 job.edges) ≡ Some f.at = is.first ∙ ap (λ (edge : Edge). Some (f.at.0, edge)) same in
    let at : f.k ≡ place = let s = f.place_is in omega arith in (
      f.lane,
      ap (λ (p : Option (ℕ × Edge)). lane_along job (Some who.number) p tuple) first ∙ f.along,
      ap (λ ls. slice_get ls place) (lanes_out-rows job who.number who there) ∙ subst (λ k. slice_get (rows job (Some who.number) edges) k ≡ Some f.lane) at f.stands,
    )
  where
    listed : (p : ℕ × Edge) → IsIn p (filter (λ (p : ℕ × Edge). p.1.from == who.node) (enumerate_from 0 job.edges)) → slice_get job.edges p.0 ≡ Some p.1
    listed p i =
        let q = in_enumerate 0 job.edges p (in_filter (λ (p : ℕ × Edge). p.1.from == who.node) p (enumerate_from 0 job.edges) i).0 in
        subst (λ n. slice_get job.edges n ≡ Some p.1) (let a = q.1 in omega arith) q.2

none_found : (job : JobView) (first port : ℕ) (tuple : Tuple) (exits : List OutEdge) → place_from job first exits port tuple ≡ None → first_with port exits ≡ None
none_found job first port tuple [] e = refl
none_found job first port tuple (exit ∷ more) e = go (exit.port == port) e (λ q. none_found job (first + exit.receivers) port tuple more q)
  where
    go : (b : Bool) → cond b (Some (first + worker_along job exit.edge tuple)) (place_from job (first + exit.receivers) more port tuple) ≡ None
        → (place_from job (first + exit.receivers) more port tuple ≡ None → first_with port more ≡ None) → cond b (Some exit) (first_with port more) ≡ None
    go true e f = absurd (cc)
    go false e f = f e

pub no_route : (job : JobView) (who : WorkerOf) (port : ℕ) (tuple : Tuple) → place_from job 0 (out_edges job who.node) port tuple ≡ None → lane_of job (Some who.number) who.node port tuple ≡ None
no_route job who port tuple e =
    ap (λ (p : Option (ℕ × Edge)). lane_along job (Some who.number) p tuple)
    (no_out job who.node port (out_edges job who.node) refl (sym (none_found job 0 port tuple (out_edges job who.node) e)))

-- ---- numbers of lanes

filtered : {A : Type 0} (test : A → Bool) (m : ℕ) (xs : List A) (k : ℕ) (p : ℕ × A) → slice_get (filter (λ (p : ℕ × A). test p.1) (enumerate_from m xs)) k ≡ Some p → slice_get (filter test xs) k ≡ Some p.1
filtered test m [] k p g = absurd (cc)
filtered {A} test m (x ∷ xs) k p g = go (test x) k g (λ j q. filtered test (m + 1) xs j p q)
  where
    go : (b : Bool) (k : ℕ) → slice_get (cond b ((m, x) ∷ filter (λ (p : ℕ × A). test p.1) (enumerate_from (m + 1) xs)) (filter (λ (p : ℕ × A). test p.1) (enumerate_from (m + 1) xs))) k ≡ Some p
        → ((j : ℕ) → slice_get (filter (λ (p : ℕ × A). test p.1) (enumerate_from (m + 1) xs)) j ≡ Some p → slice_get (filter test xs) j ≡ Some p.1)
        → slice_get (cond b (x ∷ filter test xs) (filter test xs)) k ≡ Some p.1
    go true zero g rec = let e : ◌≡◌ {A = ℕ × A} (m, x) p = cc in ap (λ (q : ℕ × A). Some q.1) e
    go true (suc k) g rec = rec k g
    go false k g rec = rec k g

-- the lane at a place among the lanes out has the number at that place
pub lane_at : (job : JobView) (w k number : ℕ) → slice_get (out_numbers job w) k ≡ Some number → (lane : Lane) × (slice_get (lanes_out job w) k ≡ Some lane) × (slice_get (lanes job) number ≡ Some lane)
lane_at job w k number g =
    let test : Lane → Bool = λ (lane : Lane). is_sender w lane.sender in
    let p = map_place (λ (p : ℕ × Lane). p.0) (filter (λ (p : ℕ × Lane). test p.1) (enumerate_from 0 (lanes job))) k number g in
    let q = in_enumerate 0 (lanes job) p.0 (in_filter (λ (p : ℕ × Lane). test p.1) p.0 (enumerate_from 0 (lanes job)) (in_of_place p.0 (filter (λ (p : ℕ × Lane). test p.1) (enumerate_from 0 (lanes job))) k p.1)).0 in
    (p.0.1, filtered test 0 (lanes job) k p.0 p.1, subst (λ n. slice_get (lanes job) n ≡ Some p.0.1) (let a = q.1 in let b = p.2 in omega arith) q.2)

pub place_below : (job : JobView) (w place : ℕ) (lane : Lane) (numbers : List ℕ) → numbers ≡ out_numbers job w → slice_get (lanes_out job w) place ≡ Some lane → place < length numbers
place_below job w place lane numbers same at =
    omega (arith, ap length same, slice_get_within (lanes_out job w) place lane at, as_many (λ (lane : Lane). is_sender w lane.sender) 0 (lanes job))
  where
    as_many : (test : Lane → Bool) (m : ℕ) (xs : List Lane) → length (map (λ (p : ℕ × Lane). p.0) (filter (λ (p : ℕ × Lane). test p.1) (enumerate_from m xs))) ≡ length (filter test xs)
    as_many test m [] = refl
    as_many test m (x ∷ xs) = go (test x) (as_many test (m + 1) xs)
      where
        go : (b : Bool) → length (map (λ (p : ℕ × Lane). p.0) (filter (λ (p : ℕ × Lane). test p.1) (enumerate_from (m + 1) xs))) ≡ length (filter test xs)
            → length (map (λ (p : ℕ × Lane). p.0) (cond b ((m, x) ∷ filter (λ (p : ℕ × Lane). test p.1) (enumerate_from (m + 1) xs)) (filter (λ (p : ℕ × Lane). test p.1) (enumerate_from (m + 1) xs))))
            ≡ length (cond b (x ∷ filter test xs) (filter test xs))
        go true e = ap suc e
        go false e = e
