-- The lanes of a job, by their numbers.
use Rattle.std.proofs.Common.{◌≡◌, ◌∙◌, ◌+◌, ◌==◌, ◌&&◌, ℕ, zero, suc, List, [], ◌∷◌, inl, inr, refl, sym, subst, ap, arith, true, false, Bool, cond, map, filter, Some, None, Option, option_map, slice_get}
use Rattle.std.specs.List.{enumerate_from}
use Rattle.std.proofs.lemmas.Bool.{and_parts, eq-eqb, eqb-true}
use Rattle.std.proofs.lemmas.Option.{same_Some}
use Rattle.flow_dag.specs.declared.edge.Edge.{Edge}
use Rattle.jobs.specs.Nodes.{is_source_node}
use Rattle.jobs.specs.JobView.{JobView}
use Rattle.tuple_trace.specs.declared.tuple.Tuple.{Tuple}
use Rattle.flow_model.specs.Covers.{covers_edge}
use Rattle.flow_model.specs.Lanes.{first_on, is_same_lane, is_same_sender, is_sender, lane_along, lane_of, lanes, lanes_in, lanes_of, lanes_that, marked_lanes, receiver_of, senders}
use Rattle.flow_model.specs.declared.topology.Lane.{Lane}
use Rattle.flow_model.specs.SetupView.{SetupView, Worker}
use Rattle.flow_model.specs.Workers.{workers_in, workers_at_node}
use Rattle.flow_model.proofs.ElementLemmas.{AreDistinct, IsIn, distinct_by_place, distinct_filter, distinct_flat_map, distinct_map, filter_in, flat_map_in, in_filter, in_flat_map, in_map, in_of_place, map_in, place_of_in, same_place}
use Rattle.flow_model.proofs.WorkerLemmas.{IsWorker, in_workers, in_workers_at_node, workers_at_node_distinct, same_who}

-- ---- items with their places

pub enumerate_get : {A : Type 0} (n : ℕ) (xs : List A) (k : ℕ) (p : ℕ × A) → slice_get (enumerate_from n xs) k ≡ Some p → (p.0 ≡ n + k) × (slice_get xs k ≡ Some p.1)
enumerate_get n [] k p g = absurd (cc)
enumerate_get {A} n (x ∷ xs) zero p g = let e : ◌≡◌ {A = ℕ × A} (n, x) p = cc in (sym (ap (λ (q : ℕ × A). q.0) e) ∙ omega arith, ap (λ (q : ℕ × A). Some q.1) e)
enumerate_get n (x ∷ xs) (suc k) p g = let r = enumerate_get (n + 1) xs k p g in (omega (arith, r.0), r.1)

pub in_enumerate : {A : Type 0} (n : ℕ) (xs : List A) (p : ℕ × A) → IsIn p (enumerate_from n xs) → (k : ℕ) × (p.0 ≡ n + k) × (slice_get xs k ≡ Some p.1)
in_enumerate n xs p i = let r = place_of_in p (enumerate_from n xs) i in let q = enumerate_get n xs r.0 p r.1 in (r.0, q.0, q.1)

pub enumerate_in : {A : Type 0} (n : ℕ) (xs : List A) (k m : ℕ) (x : A) → slice_get xs k ≡ Some x → m ≡ n + k → IsIn (m, x) (enumerate_from n xs)
enumerate_in n [] k m x g e = absurd (cc)
enumerate_in {A} n (y ∷ xs) zero m x g e = inl (let p : y ≡ x = cc in let q : m ≡ n = omega arith in λ i. (q i, sym p i))
enumerate_in n (y ∷ xs) (suc k) m x g e = inr (enumerate_in (n + 1) xs k m x g (omega arith))

pub enumerate_distinct : {A : Type 0} (xs : List A) → AreDistinct (enumerate_from 0 xs)
enumerate_distinct {A} xs =
    distinct_by_place (enumerate_from 0 xs) (λ i j (p : ℕ × A) g h.
    let a = enumerate_get 0 xs i p g in let b = enumerate_get 0 xs j p h in omega (arith, a.0, b.0))

-- ---- what a lane is

-- a lane is that of an edge, to a worker of the node at its end, from a sender of the node at its beginning
pub record LaneIs (job : JobView) (lane : Lane) : Type 0 where
  pub edge : Edge
  pub edge_is : slice_get job.edges lane.edge ≡ Some edge
  pub to : Worker
  pub receives : IsIn to (workers_at_node job edge.to)
  pub receiver : lane.receiver ≡ to.number
  pub sends : IsIn lane.sender (senders job edge.from)

-- the lanes of an edge from one sender
abbrev pub lanes_from : JobView → ℕ → Edge → Option ℕ → List Lane
lanes_from job number edge sender = map (λ (who : Worker). record { edge = number; sender = sender; receiver = who.number }) (workers_at_node job edge.to)

in_lanes_of : (job : JobView) (number : ℕ) (edge : Edge) (lane : Lane) → IsIn lane (lanes_of job number edge)
    → (lane.edge ≡ number) × IsIn lane.sender (senders job edge.from) × ((who : Worker) × IsIn who (workers_at_node job edge.to) × (lane.receiver ≡ who.number))
in_lanes_of job number edge lane i =
    let s = in_flat_map (lanes_from job number edge) lane (senders job edge.from) i in
    let r = in_map {B = Lane} (λ (who : Worker). record { edge = number; sender = s.0; receiver = who.number }) lane (workers_at_node job edge.to) s.2 in (
      ap (λ (l : Lane). l.edge) r.2,
      subst (λ x. IsIn x (senders job edge.from)) (sym (ap (λ (l : Lane). l.sender) r.2)) s.1,
      (r.0, r.1, ap (λ (l : Lane). l.receiver) r.2),
    )

pub in_lanes : (job : JobView) (lane : Lane) → IsIn lane (lanes job) → LaneIs job lane
in_lanes job lane i =
    let p = in_flat_map (λ (p : ℕ × Edge). lanes_of job p.0 p.1) lane (enumerate_from 0 job.edges) i in
    let q = in_enumerate 0 job.edges p.0 p.1 in
    let r = in_lanes_of job p.0.0 p.0.1 lane p.2 in
    let number : q.0 ≡ lane.edge = omega (arith, q.1, r.0) in
    record {
      edge = p.0.1;
      edge_is = subst (λ k. slice_get job.edges k ≡ Some p.0.1) number q.2;
      to = r.2.0;
      receives = r.2.1;
      receiver = r.2.2;
      sends = r.1;
    }

pub lane_is : (job : JobView) (n : ℕ) (lane : Lane) → slice_get (lanes job) n ≡ Some lane → LaneIs job lane
lane_is job n lane g = in_lanes job lane (in_of_place lane (lanes job) n g)

-- for each edge, each sender and each receiver there is a lane
pub lane_of_edge : (job : JobView) (i : ℕ) (edge : Edge) (sender : Option ℕ) (who : Worker) → slice_get job.edges i ≡ Some edge → IsIn sender (senders job edge.from)
    → IsIn who (workers_at_node job edge.to) → (n : ℕ) × (slice_get (lanes job) n ≡ Some (record { edge = i; sender = sender; receiver = who.number }))
lane_of_edge job i edge sender who g s r =
    place_of_in (record { edge = i; sender = sender; receiver = who.number }) (lanes job) (
    flat_map_in (λ (p : ℕ × Edge). lanes_of job p.0 p.1) (i, edge) (record { edge = i; sender = sender; receiver = who.number }) (enumerate_from 0 job.edges)
    (enumerate_in 0 job.edges i i edge g (omega arith)) (
    flat_map_in (lanes_from job i edge) sender (record { edge = i; sender = sender; receiver = who.number }) (senders job edge.from) s (
    map_in {B = Lane} (λ (who : Worker). record { edge = i; sender = sender; receiver = who.number }) who (workers_at_node job edge.to) r)))

-- ---- the edge of a tuple's lane

first_on_is : (node port first : ℕ) (edges : List Edge) (found : ℕ × Edge) → first_on node port (enumerate_from first edges) ≡ Some found
    → IsIn found (enumerate_from first edges) × (found.1.from ≡ node) × (found.1.port ≡ port)
first_on_is node port first [] found h = absurd (cc)
first_on_is node port first (e ∷ more) found h = go (e.from == node && e.port == port) refl (first_on_is node port (first + 1) more found) h
  where
    go : (b : Bool) → (e.from == node && e.port == port) ≡ b
        → (first_on node port (enumerate_from (first + 1) more) ≡ Some found → IsIn found (enumerate_from (first + 1) more) × (found.1.from ≡ node) × (found.1.port ≡ port))
        → cond b (Some (first, e)) (first_on node port (enumerate_from (first + 1) more)) ≡ Some found
        → IsIn found ((first, e) ∷ enumerate_from (first + 1) more) × (found.1.from ≡ node) × (found.1.port ≡ port)
    go true is f h =
        let same : ◌≡◌ {A = ℕ × Edge} (first, e) found = same_Some {A = ℕ × Edge} (first, e) found h in
        let edge : e ≡ found.1 = ap (λ (p : ℕ × Edge). p.1) same in
        let parts = and_parts (e.from == node) (e.port == port) is in
        (inl (sym same), sym (ap (λ (x : Edge). x.from) edge) ∙ eqb-true e.from node parts.0, sym (ap (λ (x : Edge). x.port) edge) ∙ eqb-true e.port port parts.1)
    go false is f h = let r = f h in (inr r.0, r.1, r.2)

-- a tuple that is put on a port goes along an edge of that port
pub lane_by_port : (job : JobView) (sender : Option ℕ) (node port : ℕ) (t : Tuple) (lane : Lane) → lane_of job sender node port t ≡ Some lane
    → (edge : Edge) × (slice_get job.edges lane.edge ≡ Some edge) × (edge.from ≡ node) × (edge.port ≡ port)
lane_by_port job sender node port t lane h = go (first_on node port (enumerate_from 0 job.edges)) refl h
  where
    go : (o : Option (ℕ × Edge)) → first_on node port (enumerate_from 0 job.edges) ≡ o → lane_along job sender o t ≡ Some lane
        → (edge : Edge) × (slice_get job.edges lane.edge ≡ Some edge) × (edge.from ≡ node) × (edge.port ≡ port)
    go None e h = absurd (cc)
    go (Some found) e h =
        let p = first_on_is node port 0 job.edges found e in
        let q = in_enumerate 0 job.edges found p.0 in
        let number : found.0 ≡ lane.edge = by_receiver (receiver_of job found.1 t) h in
        let at : q.0 ≡ lane.edge = omega (arith, q.1, number) in
        (found.1, subst (λ k. slice_get job.edges k ≡ Some found.1) at q.2, p.1, p.2)
      where
        by_receiver : (o : Option Worker) → option_map (λ (who : Worker). record { edge = found.0; sender = sender; receiver = who.number }) o ≡ Some lane → found.0 ≡ lane.edge
        by_receiver None h = absurd (cc)
        by_receiver (Some who) h = ap (λ (l : Lane). l.edge) (same_Some {A = Lane} (record { edge = found.0; sender = sender; receiver = who.number }) lane h)

-- ---- no two lanes are the same

same_of_node : (job : JobView) (node : ℕ) (a b : Worker) → IsIn a (workers_at_node job node) → IsIn b (workers_at_node job node) → a.number ≡ b.number → a ≡ b
same_of_node job node a b i j e = same_who job a b (in_workers_at_node job node a i).0 (in_workers_at_node job node b j).0 e

pub senders_distinct : (job : JobView) (node : ℕ) → AreDistinct (senders job node)
senders_distinct job node = go (is_source_node (slice_get job.nodes node))
  where
    go : (b : Bool) → AreDistinct (cond b (None ∷ []) (map (λ (who : Worker). Some who.number) (workers_at_node job node)))
    go true = ((λ i. i), tt)
    go false = distinct_map (λ (who : Worker). Some who.number) (workers_at_node job node)
        (λ a b i j e. same_of_node job node a b i j (same_Some a.number b.number e)) (workers_at_node_distinct job node)

lanes_of_distinct : (job : JobView) (number : ℕ) (edge : Edge) → AreDistinct (lanes_of job number edge)
lanes_of_distinct job number edge =
    distinct_flat_map (lanes_from job number edge) (senders job edge.from) (senders_distinct job edge.from)
    (λ s i. distinct_map {B = Lane} (λ (who : Worker). record { edge = number; sender = s; receiver = who.number }) (workers_at_node job edge.to)
    (λ a b i j e. same_of_node job edge.to a b i j (ap (λ (l : Lane). l.receiver) e)) (workers_at_node_distinct job edge.to))
    (λ s t lane i j a b.
    let p = in_map {B = Lane} (λ (who : Worker). record { edge = number; sender = s; receiver = who.number }) lane (workers_at_node job edge.to) a in
    let q = in_map {B = Lane} (λ (who : Worker). record { edge = number; sender = t; receiver = who.number }) lane (workers_at_node job edge.to) b in
    sym (ap (λ (l : Lane). l.sender) p.2) ∙ ap (λ (l : Lane). l.sender) q.2)

pub lanes_distinct : (job : JobView) → AreDistinct (lanes job)
lanes_distinct job =
    distinct_flat_map (λ (p : ℕ × Edge). lanes_of job p.0 p.1) (enumerate_from 0 job.edges) (enumerate_distinct job.edges)
    (λ p i. lanes_of_distinct job p.0 p.1)
    (λ p q lane i j a b.
    let x = in_enumerate 0 job.edges p i in
    let y = in_enumerate 0 job.edges q j in
    let e : p.0 ≡ q.0 = sym (in_lanes_of job p.0 p.1 lane a).0 ∙ (in_lanes_of job q.0 q.1 lane b).0 in
    let k : x.0 ≡ y.0 = omega (arith, x.1, y.1) in
    let u = x.2 in
    let v : slice_get job.edges x.0 ≡ Some q.1 = subst (λ n. slice_get job.edges n ≡ Some q.1) (sym k) y.2 in
    let f : p.1 ≡ q.1 = cc in
    λ i. (e i, f i))

-- the number of a lane is its own
pub same_number : (job : JobView) (a b : Lane) (n k : ℕ) → slice_get (lanes job) n ≡ Some a → slice_get (lanes job) k ≡ Some b → a ≡ b → n ≡ k
same_number job a b n k g h e = same_place a n k (lanes job) (lanes_distinct job) g (rw e h)

-- ---- the test of lanes

same_sender : (a b : Option ℕ) → is_same_sender a b ≡ true → a ≡ b
same_sender None None e = refl
same_sender (Some a) (Some b) e = ap Some (eqb-true a b e)
same_sender None (Some b) e = absurd (cc)
same_sender (Some a) None e = absurd (cc)

pub same_lane : (found : Option Lane) (lane : Lane) → is_same_lane found lane ≡ true → found ≡ Some lane
same_lane None lane e = absurd (cc)
same_lane (Some a) b e =
    let p = and_parts (a.edge == b.edge && is_same_sender a.sender b.sender) (a.receiver == b.receiver) e in
    let q = and_parts (a.edge == b.edge) (is_same_sender a.sender b.sender) p.0 in
    ap Some (build (eqb-true a.edge b.edge q.0) (same_sender a.sender b.sender q.1) (eqb-true a.receiver b.receiver p.1))
  where
    build : a.edge ≡ b.edge → a.sender ≡ b.sender → a.receiver ≡ b.receiver → a ≡ b
    build p q r = λ i. record { edge = p i; sender = q i; receiver = r i }

sender_self : (a : Option ℕ) → is_same_sender a a ≡ true
sender_self None = refl
sender_self (Some a) = eq-eqb a a refl

pub lane_self : (lane : Lane) → is_same_lane (Some lane) lane ≡ true
lane_self lane = rw (eq-eqb lane.edge lane.edge refl, sender_self lane.sender, eq-eqb lane.receiver lane.receiver refl) refl

-- ---- lanes by a test

pub in_lanes_that : (test : Lane → Bool) (job : JobView) (n : ℕ) → IsIn n (lanes_that test job) → (lane : Lane) × (slice_get (lanes job) n ≡ Some lane) × (test lane ≡ true)
in_lanes_that test job n i =
    let p = in_map (λ (p : ℕ × Lane). p.0) n (filter (λ (p : ℕ × Lane). test p.1) (enumerate_from 0 (lanes job))) i in
    let q = in_filter (λ (p : ℕ × Lane). test p.1) p.0 (enumerate_from 0 (lanes job)) p.1 in
    let r = in_enumerate 0 (lanes job) p.0 q.0 in
    let e : r.0 ≡ n = omega (arith, r.1, p.2) in
    (p.0.1, subst (λ k. slice_get (lanes job) k ≡ Some p.0.1) e r.2, q.1)

pub lanes_that_in : (test : Lane → Bool) (job : JobView) (n : ℕ) (lane : Lane) → slice_get (lanes job) n ≡ Some lane → test lane ≡ true → IsIn n (lanes_that test job)
lanes_that_in test job n lane g t =
    map_in (λ (p : ℕ × Lane). p.0) (n, lane) (filter (λ (p : ℕ × Lane). test p.1) (enumerate_from 0 (lanes job)))
    (filter_in (λ (p : ℕ × Lane). test p.1) (n, lane) (enumerate_from 0 (lanes job)) (enumerate_in 0 (lanes job) n n lane g (omega arith)) t)

pub lanes_that-distinct : (test : Lane → Bool) (job : JobView) → AreDistinct (lanes_that test job)
lanes_that-distinct test job =
    distinct_map (λ (p : ℕ × Lane). p.0) passing one (distinct_filter (λ (p : ℕ × Lane). test p.1) (enumerate_from 0 (lanes job)) (enumerate_distinct (lanes job)))
  where
    passing : List (ℕ × Lane)
    passing = filter (λ (p : ℕ × Lane). test p.1) (enumerate_from 0 (lanes job))

    there : (p : ℕ × Lane) → IsIn p passing → slice_get (lanes job) p.0 ≡ Some p.1
    there p i =
        let (k, at, is) = in_enumerate 0 (lanes job) p (in_filter (λ (p : ℕ × Lane). test p.1) p (enumerate_from 0 (lanes job)) i).0 in
        let number : k ≡ p.0 = omega (arith, at) in
        subst (λ (n : ℕ). slice_get (lanes job) n ≡ Some p.1) number is

    one : (p q : ℕ × Lane) → IsIn p passing → IsIn q passing → p.0 ≡ q.0 → p ≡ q
    one p q i j e =
        let same : p.1 ≡ q.1 = same_Some p.1 q.1 (sym (there p i) ∙ (ap (slice_get (lanes job)) e ∙ there q j)) in
        λ i. (e i, same i)

-- ---- the lanes into a worker

-- a lane into a worker: its number, and its edge, which leads to the worker's node
pub record LaneIn (job : JobView) (who : Worker) (n : ℕ) : Type 0 where
  pub lane : Lane
  pub numbered : slice_get (lanes job) n ≡ Some lane
  pub receiver : lane.receiver ≡ who.number
  pub edge : Edge
  pub edge_is : slice_get job.edges lane.edge ≡ Some edge
  pub to : edge.to ≡ who.node
  pub sends : IsIn lane.sender (senders job edge.from)

pub lane_into : (job : JobView) (who : Worker) (n : ℕ) (lane : Lane) → IsWorker job who → slice_get (lanes job) n ≡ Some lane → lane.receiver ≡ who.number → LaneIn job who n
lane_into job who n lane is g r =
    let k : LaneIs job lane = lane_is job n lane g in
    let into = in_workers_at_node job k.edge.to k.to k.receives in
    let q : IsWorker job k.to = in_workers job k.to into.0 in
    let number : k.to.number ≡ who.number = sym k.receiver ∙ r in
    let x = is.there in
    let y : slice_get (workers_in job) who.number ≡ Some k.to = subst (λ n. slice_get (workers_in job) n ≡ Some k.to) number q.there in
    let same : k.to ≡ who = cc in
    record {
      lane = lane;
      numbered = g;
      receiver = r;
      edge = k.edge;
      edge_is = k.edge_is;
      to = sym into.1 ∙ ap (λ (p : Worker). p.node) same;
      sends = k.sends;
    }

pub lane_in : (job : JobView) (who : Worker) (n : ℕ) → IsWorker job who → IsIn n (lanes_in job who.number) → LaneIn job who n
lane_in job who n is i =
    let r = in_lanes_that (λ (lane : Lane). lane.receiver == who.number) job n i in
    lane_into job who n r.0 is r.1 (eqb-true r.0.receiver who.number r.2)

-- a covered lane brings its worker the marker
pub marked_lane : (setup : SetupView) (who : Worker) (n request : ℕ) → (k : LaneIn setup.job who n) → covers_edge setup request k.lane.edge ≡ true → IsIn n (marked_lanes setup who.number request)
marked_lane setup who n request k c =
    lanes_that_in (λ (lane : Lane). (lane.receiver == who.number) && covers_edge setup request lane.edge) setup.job n k.lane k.numbered (
    rw (eq-eqb k.lane.receiver who.number k.receiver) c)

-- ---- the lanes out of a worker

pub sender_is : (worker : ℕ) (o : Option ℕ) → is_sender worker o ≡ true → o ≡ Some worker
sender_is worker None e = absurd (cc)
sender_is worker (Some s) e = ap Some (eqb-true s worker e)

-- ---- senders

-- the feeder sends at sources alone
pub sender_source : (job : JobView) (node : ℕ) → IsIn None (senders job node) → is_source_node (slice_get job.nodes node) ≡ true
sender_source job node = go (is_source_node (slice_get job.nodes node))
  where
    go : (b : Bool) → IsIn None (cond b (None ∷ []) (map (λ (who : Worker). Some who.number) (workers_at_node job node))) → b ≡ true
    go true i = refl
    go false i = let r = in_map (λ (who : Worker). Some who.number) None (workers_at_node job node) i in let e = r.2 in absurd (cc)

-- the sender that isn't the feeder is a worker of the node
pub sender_worker : (job : JobView) (node w : ℕ) → IsIn (Some w) (senders job node) → (who : Worker) × (slice_get (workers_in job) w ≡ Some who) × (who.number ≡ w) × (who.node ≡ node)
sender_worker job node w = go (is_source_node (slice_get job.nodes node))
  where
    go : (b : Bool) → IsIn (Some w) (cond b (None ∷ []) (map (λ (who : Worker). Some who.number) (workers_at_node job node)))
        → (who : Worker) × (slice_get (workers_in job) w ≡ Some who) × (who.number ≡ w) × (who.node ≡ node)
    go true (inl e) = absurd (cc)
    go true (inr i) = absurd i
    go false i =
        let (who, among, is) = in_map (λ (who : Worker). Some who.number) (Some w) (workers_at_node job node) i in
        let of = in_workers_at_node job node who among in
        let number : who.number ≡ w = sym (same_Some w who.number is) in
        (who, subst (λ (k : ℕ). slice_get (workers_in job) k ≡ Some who) number (in_workers job who of.0).there, number, of.1)
