-- Lanes by their numbers.
use Rattle.std.proofs.Common.{◌≡◌, ◌<◌, ◌+◌, ◌*◌, ◌==◌, ◌&&◌, ℕ, zero, suc, List, [], ◌∷◌, Bool, true, false, cond, length, take, Option, Some, None, refl, sym, ap, ◌∙◌, arith}
use Rattle.std.specs.Prelude.{option_map, slice_get}
use Rattle.std.specs.List.{enumerate_from, flat_map}
use Rattle.std.proofs.lemmas.Bool.{and_parts, eqb-true}
use Rattle.std.proofs.lemmas.Option.{same_Some, slice_get-map, slice_get_within}
use Rattle.flow_dag.specs.declared.edge.Edge.{Edge}
use Rattle.jobs.specs.Nodes.{is_source_node}
use Rattle.jobs.specs.JobView.{JobView}
use Rattle.flow_model.specs.Lanes.{first_on, lane_along, lane_of, lanes, receiver_of, senders}
use Rattle.flow_model.specs.declared.topology.Lane.{Lane}
use Rattle.flow_model.specs.SetupView.{Worker}
use Rattle.flow_model.specs.Workers.{nth_worker, workers_in, workers_at_node}
use Rattle.tuple_trace.specs.declared.tuple.Tuple.{Tuple}
use Rattle.std.proofs.lemmas.List.{length-map}
use Rattle.flow_model.specs.Topology.{first_lane, lanes_along}
use Rattle.flow_model.proofs.LaneLemmas.{LaneIs, lane_is, lanes_from}
use Rattle.flow_model.proofs.PlaceLemmas.{flat_map_get}
use Rattle.flow_model.proofs.WorkerLemmas.{in_workers, in_workers_at_node, worker_with}
use Rattle.flow_model.proofs.PieceLemmas.{get-enumerate, length-pieces}
use Rattle.flow_model.proofs.WorkerPlaces.{get-worker_place, nth_worker-get}

pub length-lanes_from : (job : JobView) (number : ℕ) (edge : Edge) (sender : Option ℕ) → length (lanes_from job number edge sender) ≡ length (workers_at_node job edge.to)
length-lanes_from job number edge sender = length-map (workers_at_node job edge.to) (λ (who : Worker). record { edge = number; sender = sender; receiver = who.number })

-- the lane from a sender to a worker along an edge, by its number
pub get-lane : (job : JobView) (number : ℕ) (edge : Edge) (sender_place place : ℕ) (sender : Option ℕ) (who : Worker) (n : ℕ) → slice_get job.edges number ≡ Some edge
    → slice_get (senders job edge.from) sender_place ≡ Some sender → slice_get (workers_at_node job edge.to) place ≡ Some who
    → n ≡ first_lane job number + sender_place * length (workers_at_node job edge.to) + place
    → slice_get (lanes job) n ≡ Some (record { edge = number; sender = sender; receiver = who.number })
get-lane job number edge sender_place place sender who n there sends receives is =
    ap (slice_get (lanes job)) at
    ∙ flat_map_get (lanes_along job) (enumerate_from 0 job.edges) number (length (flat_map (lanes_from job number edge) (take sender_place (senders job edge.from))) + place) (number, edge)
    (record { edge = number; sender = sender; receiver = who.number })
    (get-enumerate 0 job.edges number number edge there (omega arith))
    (flat_map_get (lanes_from job number edge) (senders job edge.from) sender_place place sender (record { edge = number; sender = sender; receiver = who.number }) sends in_row)
  where
    in_row : slice_get (lanes_from job number edge sender) place ≡ Some (record { edge = number; sender = sender; receiver = who.number })
    in_row =
        slice_get-map (λ (who : Worker). record { edge = number; sender = sender; receiver = who.number }) (workers_at_node job edge.to) place
        ∙ ap (option_map (λ (who : Worker). record { edge = number; sender = sender; receiver = who.number })) receives

    before : length (flat_map (lanes_from job number edge) (take sender_place (senders job edge.from))) ≡ sender_place * length (workers_at_node job edge.to)
    before =
        length-pieces (lanes_from job number edge) (length (workers_at_node job edge.to)) (length-lanes_from job number edge) (senders job edge.from) sender_place
        (let w = slice_get_within (senders job edge.from) sender_place sender sends in omega (arith, w))

    at : n ≡ first_lane job number + (length (flat_map (lanes_from job number edge) (take sender_place (senders job edge.from))) + place)
    at = omega (arith, is, before)

-- ---- senders

-- a worker is a sender of its node, at its place
pub sends : (job : JobView) (w : ℕ) (who : Worker) → slice_get (workers_in job) w ≡ Some who → slice_get (senders job who.node) who.place ≡ Some (Some w)
sends job w who there =
    let (number, is) = worker_with job w who there in
    let isnt_source : is_source_node (slice_get job.nodes who.node) ≡ false = rw is.node_is is.no_source in
    rw isnt_source (slice_get-map (λ (q : Worker). Some q.number) (workers_at_node job who.node) who.place
    ∙ (ap (option_map (λ (q : Worker). Some q.number)) (get-worker_place job w who there) ∙ ap (λ (n : ℕ). Some (Some n)) number))

-- ---- the lane of a tuple

-- the first edge on a port leaves the node, and comes with its number
pub first_on-edge : (node port n : ℕ) (edges : List Edge) (p : ℕ × Edge) → first_on node port (enumerate_from n edges) ≡ Some p
    → (k : ℕ) × (p.0 ≡ n + k) × (slice_get edges k ≡ Some p.1) × (p.1.from ≡ node)
first_on-edge node port n [] p e = absurd (cc)
first_on-edge node port n (x ∷ xs) p e = go ((x.from == node) && (x.port == port)) refl e (first_on-edge node port (n + 1) xs p)
  where
    go : (b : Bool) → ((x.from == node) && (x.port == port)) ≡ b → cond b (Some (n, x)) (first_on node port (enumerate_from (n + 1) xs)) ≡ Some p
        → (first_on node port (enumerate_from (n + 1) xs) ≡ Some p → (k : ℕ) × (p.0 ≡ n + 1 + k) × (slice_get xs k ≡ Some p.1) × (p.1.from ≡ node))
        → (k : ℕ) × (p.0 ≡ n + k) × (slice_get (x ∷ xs) k ≡ Some p.1) × (p.1.from ≡ node)
    go true t h later =
        let same : (n, x) ≡ p = same_Some (n, x) p h in
        let from : x.from ≡ node = eqb-true x.from node (and_parts (x.from == node) (x.port == port) t).0 in
        (zero, ap (λ q. q.0) (sym same) ∙ omega arith, ap (λ q. Some q.1) same, ap (λ q. q.1.from) (sym same) ∙ from)
    go false t h later = let r = later h in (suc r.0, omega (arith, r.1), r.2, r.3)

-- what is known of a lane that a tuple was given
pub record IsLaneOf (job : JobView) (sender : Option ℕ) (node : ℕ) (lane : Lane) : Type 0 where
  pub sender_is : lane.sender ≡ sender
  pub edge : Edge
  pub edge_is : slice_get job.edges lane.edge ≡ Some edge
  pub from_is : edge.from ≡ node

pub is_lane_of : (job : JobView) (sender : Option ℕ) (node port : ℕ) (tuple : Tuple) (lane : Lane) → lane_of job sender node port tuple ≡ Some lane → IsLaneOf job sender node lane
is_lane_of job sender node port tuple lane = go (first_on node port (enumerate_from 0 job.edges)) refl
  where
    go : (o : Option (ℕ × Edge)) → first_on node port (enumerate_from 0 job.edges) ≡ o → lane_along job sender o tuple ≡ Some lane → IsLaneOf job sender node lane
    go None g e = absurd (cc)
    go (Some p) g e = by_worker (receiver_of job p.1 tuple) e
      where
        by_worker : (o : Option Worker) → option_map (λ (who : Worker). record { edge = p.0; sender = sender; receiver = who.number }) o ≡ Some lane → IsLaneOf job sender node lane
        by_worker None h = absurd (cc)
        by_worker (Some who) h =
            let same : record { edge = p.0; sender = sender; receiver = who.number } ≡ lane = same_Some _ lane h in
            let r = first_on-edge node port 0 job.edges p g in
            let at : r.0 ≡ lane.edge = omega (arith, r.1, ap (λ (l : Lane). l.edge) same) in
            record { sender_is = ap (λ (l : Lane). l.sender) (sym same); edge = p.1; edge_is = ap (slice_get job.edges) (sym at) ∙ r.2; from_is = r.3 }

-- the receiver of a lane is a worker of the job, at the end of its edge
pub receiver_there : (job : JobView) (lane : Lane) (is : LaneIs job lane) → slice_get (workers_in job) lane.receiver ≡ Some is.to
receiver_there job lane is = ap (slice_get (workers_in job)) is.receiver ∙ (in_workers job is.to (in_workers_at_node job is.edge.to is.to is.receives).0).there

pub receiver_below : (job : JobView) (n : ℕ) (lane : Lane) → slice_get (lanes job) n ≡ Some lane → lane.receiver < length (workers_in job)
receiver_below job n lane e = let is = lane_is job n lane e in slice_get_within (workers_in job) lane.receiver is.to (receiver_there job lane is)

pub receiver_node : (job : JobView) (lane : Lane) (is : LaneIs job lane) → (nth_worker job lane.receiver).node ≡ is.edge.to
receiver_node job lane is = ap (λ (p : Worker). p.node) (nth_worker-get job lane.receiver is.to (receiver_there job lane is)) ∙ (in_workers_at_node job is.edge.to is.to is.receives).1
