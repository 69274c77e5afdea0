-- The workers and lanes of a job, as code has them.
use Rattle.std.specs.Prelude.{◌≡◌, ◌==◌, ◌+◌, ℕ, List, [], ◌∷◌, length, map, filter, take, Option}
use Rattle.std.specs.Prelude.{Some, None, slice_get, if◌then◌else◌}
use Rattle.std.specs.List.{enumerate_from, flat_map, range_with_len}
use Rattle.flow_dag.specs.declared.edge.Edge.{Edge}
use Rattle.jobs.specs.Nodes.{worker_count}
use Rattle.jobs.specs.JobView.{JobView}
use Rattle.operators.specs.Ports.{out_ports}
use Rattle.flow_model.specs.declared.topology.Lane.{Lane}
use Rattle.flow_model.specs.declared.topology.OutEdge.{OutEdge}
use Rattle.flow_model.specs.declared.topology.Topology.{Topology}
use Rattle.flow_model.specs.declared.topology.WorkerAt.{WorkerAt}
use Rattle.flow_model.specs.Lanes.{is_sender, lanes, lanes_in, lanes_of, out_numbers}
use Rattle.flow_model.specs.SetupView.{Worker}
use Rattle.flow_model.specs.Workers.{workers_in, workers_at_node}

abbrev pub worker_of : Worker → WorkerAt
worker_of who = record { node = who.node; place = who.place }

-- the number of the first worker of a node
abbrev pub first_worker : JobView → ℕ → ℕ
first_worker job node = worker_count (take node job.nodes)

-- the lanes of an edge that comes with its number
abbrev pub lanes_along : JobView → ℕ × Edge → List Lane
lanes_along job edge = lanes_of job edge.0 edge.1

-- the number of the first lane of an edge
abbrev pub first_lane : JobView → ℕ → ℕ
first_lane job edge = length (flat_map (lanes_along job) (take edge (enumerate_from 0 job.edges)))

-- an edge that comes with its number, as its senders see it
abbrev pub out_edge : JobView → ℕ × Edge → OutEdge
out_edge job edge = record {
  port = edge.1.port;
  edge = edge.0;
  first_lane = first_lane job edge.0;
  first_receiver = first_worker job edge.1.to;
  receivers = length (workers_at_node job edge.1.to);
}

-- the edges out of a node, in their order
abbrev pub out_edges : JobView → ℕ → List OutEdge
out_edges job node =
    map (out_edge job) (filter (λ (edge : ℕ × Edge). edge.1.from == node)
    (enumerate_from 0 job.edges))

-- the topology of a job: its workers and lanes by their numbers, the lanes into and out of each
-- worker, and the edges out of each node with their ports
abbrev pub topology_of : JobView → Topology
topology_of job = record {
  workers = map worker_of (workers_in job);
  lanes = lanes job;
  lanes_in = map (lanes_in job) (range_with_len 0 (length (workers_in job)));
  lanes_out = map (out_numbers job) (range_with_len 0 (length (workers_in job)));
  out_edges = map (out_edges job) (range_with_len 0 (length job.nodes));
  ports = map (out_ports job.edges) (range_with_len 0 (length job.nodes));
}

-- the first of these edges on a port
abbrev pub first_with : ℕ → List OutEdge → Option OutEdge
first_with port [] = None
first_with port (out ∷ more) = if out.port == port then Some out else first_with port more

-- a lane was looked for, and this is its number
abbrev pub IsNumberOf : JobView → Option Lane → ℕ → Type 0
IsNumberOf job found number =
    (lane : Lane) × (found ≡ Some lane) × (slice_get (lanes job) number ≡ Some lane)

-- the numbers of those of these lanes that end at a worker, and of those that begin there
abbrev pub numbers_in : List Lane → ℕ → List ℕ
numbers_in all worker = map (λ (p : ℕ × Lane). p.0)
    (filter (λ (p : ℕ × Lane). p.1.receiver == worker) (enumerate_from 0 all))

abbrev pub numbers_out : List Lane → ℕ → List ℕ
numbers_out all worker = map (λ (p : ℕ × Lane). p.0)
    (filter (λ (p : ℕ × Lane). is_sender worker p.1.sender) (enumerate_from 0 all))

-- the lanes from one sender along an edge, to `workers` workers from the first one on
abbrev pub lanes_to : ℕ → Option ℕ → ℕ → ℕ → List Lane
lanes_to edge sender first workers =
    map (λ (place : ℕ). record { edge = edge; sender = sender; receiver = first + place })
    (range_with_len 0 workers)
