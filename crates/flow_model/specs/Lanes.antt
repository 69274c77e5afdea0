-- The lanes of a job: the ways along which its feeder and its workers send.
use Rattle.std.specs.Prelude.{ℕ, ◌==◌, Bool, false, true, ◌&&◌, List, [], ◌∷◌, map, filter, Option}
use Rattle.std.specs.Prelude.{Some, None, option_map, slice_get, slice_index_or, if◌then◌else◌}
use Rattle.std.specs.List.{enumerate_from, flat_map}
use Rattle.flow_dag.specs.declared.edge.Edge.{Edge}
use Rattle.jobs.specs.Nodes.{is_source_node}
use Rattle.jobs.specs.JobView.{JobView}
use Rattle.operators.specs.Lanes.{worker_at}
use Rattle.tuple_trace.specs.declared.tuple.Tuple.{Tuple}
use Rattle.flow_model.specs.declared.topology.Lane.{Lane}
use Rattle.flow_model.specs.SetupView.{SetupView, Worker}
use Rattle.flow_model.specs.Covers.{covers_edge}
use Rattle.flow_model.specs.Workers.{workers_at_node}

-- who sends at a node: the feeder alone at a source, and its workers at any other
abbrev pub senders : JobView → ℕ → List (Option ℕ)
senders job node =
    if is_source_node (slice_get job.nodes node) then None ∷ []
    else map (λ (who : Worker). Some who.number) (workers_at_node job node)

-- the lanes of an edge: for each sender one to each receiver
abbrev pub lanes_of : JobView → ℕ → Edge → List Lane
lanes_of job number edge =
    flat_map (λ (sender : Option ℕ). map (λ (who : Worker). record {
      edge = number;
      sender = sender;
      receiver = who.number;
    }) (workers_at_node job edge.to)) (
    senders job edge.from)

-- all lanes, in the order of their numbers: edge after edge, then by their senders, then by their
-- receivers
abbrev pub lanes : JobView → List Lane
lanes job = flat_map (λ (p : ℕ × Edge). lanes_of job p.0 p.1) (enumerate_from 0 job.edges)

-- the numbers of the lanes that pass a test
abbrev pub lanes_that : (Lane → Bool) → JobView → List ℕ
lanes_that test job = map (λ (p : ℕ × Lane). p.0)
    (filter (λ (p : ℕ × Lane). test p.1) (enumerate_from 0 (lanes job)))

-- the numbers of the lanes into a worker
abbrev pub lanes_in : JobView → ℕ → List ℕ
lanes_in job worker = lanes_that (λ (lane : Lane). lane.receiver == worker) job

-- the numbers of the lanes into a worker that bring it the marker of a request
abbrev pub marked_lanes : SetupView → ℕ → ℕ → List ℕ
marked_lanes setup worker request =
    lanes_that (λ (lane : Lane). (lane.receiver == worker)
    && covers_edge setup request lane.edge) setup.job

-- the sender is this worker, and not the feeder
abbrev pub is_sender : ℕ → Option ℕ → Bool
is_sender worker None = false
is_sender worker (Some sender) = sender == worker

-- the lanes out of a worker
abbrev pub lanes_out : JobView → ℕ → List Lane
lanes_out job worker = filter (λ (lane : Lane). is_sender worker lane.sender) (lanes job)

-- their numbers
abbrev pub out_numbers : JobView → ℕ → List ℕ
out_numbers job worker = lanes_that (λ (lane : Lane). is_sender worker lane.sender) job

-- what stands for a lane that the job does not have
abbrev pub no_lane : Lane
no_lane = record { edge = 0; sender = None; receiver = 0 }

-- the lane with a number, or `no_lane` past the last one
abbrev pub lane_at : JobView → ℕ → Lane
lane_at job n = slice_index_or (lanes job) n no_lane

-- both senders are the feeder, or both are one worker
abbrev pub is_same_sender : Option ℕ → Option ℕ → Bool
is_same_sender None None = true
is_same_sender (Some a) (Some b) = a == b
is_same_sender None (Some b) = false
is_same_sender (Some a) None = false

-- there is a lane, and it is this one
abbrev pub is_same_lane : Option Lane → Lane → Bool
is_same_lane None lane = false
is_same_lane (Some found) lane = (found.edge == lane.edge)
    && is_same_sender found.sender lane.sender && (found.receiver == lane.receiver)

-- the first of these edges that leaves the node on the port, with its number
abbrev pub first_on : ℕ → ℕ → List (ℕ × Edge) → Option (ℕ × Edge)
first_on node port [] = None
first_on node port (edge ∷ more) = if (edge.1.from == node) && (edge.1.port == port) then Some edge
    else first_on node port more

-- the worker that a tuple reaches along an edge
abbrev pub receiver_of : JobView → Edge → Tuple → Option Worker
receiver_of job edge tuple = slice_get (workers_at_node job edge.to)
    (worker_at job.columns (slice_get job.nodes edge.to) tuple)

-- the lane from a sender along an edge to the worker that the tuple reaches; there is none without
-- an edge
abbrev pub lane_along : JobView → Option ℕ → Option (ℕ × Edge) → Tuple → Option Lane
lane_along job sender None tuple = None
lane_along job sender (Some edge) tuple =
    option_map (λ (who : Worker). record { edge = edge.0; sender = sender; receiver = who.number })
    (receiver_of job edge.1 tuple)

-- the lane of a tuple that a sender puts on a port of a node; there is none where no edge leaves on
-- that port
abbrev pub lane_of : JobView → Option ℕ → ℕ → ℕ → Tuple → Option Lane
lane_of job sender node port tuple = lane_along job sender
    (first_on node port (enumerate_from 0 job.edges)) tuple
