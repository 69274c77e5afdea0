-- Every port that a function puts out on has an edge, and every tuple a lane there.
use Rattle.std.proofs.Common.{◌≡◌, ◌∙◌, ◌<◌, ◌+◌, ◌==◌, ◌&&◌, ◌||◌, ℕ, suc, List, [], ◌∷◌, refl, sym, subst, ap, arith, true, false, Bool, length, Some, None, Option, slice_get, option_map, nat_le}
use Rattle.std.specs.List.{enumerate_from}
use Rattle.std.proofs.lemmas.Bool.{and_parts, eqb-true, leb-true}
use Rattle.flow_dag.specs.declared.edge.Edge.{Edge}
use Rattle.jobs.specs.Kinds.{key_of, row_at}
use Rattle.jobs.specs.Nodes.{is_source, is_source_node, workers_of}
use Rattle.jobs.specs.Ports.{are_ports, has_port, has_ports, out_count}
use Rattle.jobs.specs.JobView.{JobView}
use Rattle.jobs.specs.declared.func.Func.{Func}
use Rattle.jobs.specs.declared.func.NodeDef.{NodeDef}
use Rattle.jobs.proofs.PortLemmas.{has_ports-lacks}
use Rattle.jobs.proofs.RoleLemmas.{kind_row}
use Rattle.operators.specs.Lanes.{worker_among, worker_by}
use Rattle.tuple_trace.specs.declared.tuple.Tuple.{Tuple}
use Rattle.flow_model.specs.Lanes.{first_on, lane_along, lane_of, lanes, receiver_of, senders}
use Rattle.flow_model.specs.declared.topology.Lane.{Lane}
use Rattle.flow_model.specs.SetupView.{Worker}
use Rattle.flow_model.specs.Workers.{workers_at_node}
use Rattle.flow_model.proofs.ElementLemmas.{IsIn, in_of_place}
use Rattle.flow_model.proofs.JobLemmas.{IsConnected, ports_by_kind}
use Rattle.flow_model.proofs.LaneLemmas.{lane_of_edge}
use Rattle.flow_model.proofs.WorkerListLemmas.{length-workers_at_node}
use Rattle.flow_model.proofs.WorkerLemmas.{all_workers, item_at}

-- ---- the edge of a port

-- an edge leaves the node on the port, and it is the first that does
pub record HasPortEdge (edges : List Edge) (node port : ℕ) (first : ℕ) : Type 0 where
  pub number : ℕ
  pub edge : Edge
  pub found : first_on node port (enumerate_from first edges) ≡ Some (number, edge)
  pub at : ℕ
  pub number_is : number ≡ first + at
  pub edge_is : slice_get edges at ≡ Some edge
  pub from : edge.from ≡ node

pub port_edge : (edges : List Edge) (node port first : ℕ) → has_port edges node port ≡ true → HasPortEdge edges node port first
port_edge [] node port first h = absurd (cc)
port_edge (e ∷ more) node port first h = go (e.from == node && e.port == port) refl (port_edge more node port (first + 1)) h
  where
    go : (b : Bool) → (e.from == node && e.port == port) ≡ b → (has_port more node port ≡ true → HasPortEdge more node port (first + 1)) → b || has_port more node port ≡ true
        → HasPortEdge (e ∷ more) node port first
    go true is f h =
        record { number = first; edge = e; found = rw is refl; at = 0; number_is = omega arith; edge_is = refl; from = eqb-true e.from node (and_parts (e.from == node) (e.port == port) is).0 }
    go false is f h =
        let r : HasPortEdge more node port (first + 1) = f h in
        record { number = r.number; edge = r.edge; found = rw is r.found; at = suc r.at; number_is = omega (arith, r.number_is); edge_is = r.edge_is; from = r.from }

-- ---- the ports of a source

pub source_port : (edges : List Edge) (node : ℕ) (f : Func) → is_source f ≡ true → are_ports edges node f ≡ true → has_port edges node 0 ≡ true
source_port edges node f s all =
    let k = ports_by_kind edges node f all in
    let row = (kind_row f).of_source s in
    let leave = and_parts (nat_le (row_at f).least_outs (out_count edges node)) (nat_le (out_count edges node) (row_at f).most_outs) k.1 in
    go (has_port edges node 0) refl (omega (arith, row.leaves_one.0, leb-true (row_at f).least_outs (out_count edges node) leave.0)) k.2
  where
    go : (b : Bool) → has_port edges node 0 ≡ b → 0 < out_count edges node → has_ports edges node (out_count edges node) ≡ true → has_port edges node 0 ≡ true
    go true e lt p = e
    go false e lt p = let lacks : has_ports edges node (out_count edges node) ≡ false = has_ports-lacks edges node 0 (out_count edges node) lt e in absurd (cc)

-- ---- the worker that a tuple reaches

pub among_within : (job : JobView) (f : Func) (workers : ℕ) (t : Tuple) → 0 < workers → worker_among job.columns f workers t < workers
among_within job f workers t lt = go (key_of f)
  where
    go : (o : Option ℕ) → worker_by job.columns o workers t < workers
    go None = omega arith
    go (Some key) = omega arith

some_in : {A : Type 0} (xs : List A) (x : A) → IsIn x xs → 0 < length xs
some_in [] x i = absurd i
some_in (y ∷ ys) x i = omega arith

pub receiver_there : (job : JobView) (connected : IsConnected job) (i : ℕ) (edge : Edge) (t : Tuple) → slice_get job.edges i ≡ Some edge
    → (who : Worker) × (receiver_of job edge t ≡ Some who) × IsIn who (workers_at_node job edge.to)
receiver_there job connected i edge t g =
    let to = item_at job.nodes edge.to (connected.ends i edge g).1 in
    let def : NodeDef = to.0 in
    let into : is_source_node (slice_get job.nodes edge.to) ≡ false = connected.into i edge g in
    let no_source : is_source def.func ≡ false = rw to.1 at into in
    let count : length (workers_at_node job edge.to) ≡ workers_of def = length-workers_at_node job edge.to def to.1 in
    let workers : workers_of def ≡ def.workers = all_workers def no_source in
    let m = connected.manned edge.to def to.1 no_source in
    let some : 0 < length (workers_at_node job edge.to) = some_in (workers_at_node job edge.to) m.0 m.1 in
    let within : worker_among job.columns def.func def.workers t < def.workers = among_within job def.func def.workers t (omega (arith, count, workers, some)) in
    let p = item_at (workers_at_node job edge.to) (worker_among job.columns def.func def.workers t) (omega (arith, count, workers, within)) in
    (p.0, rw to.1 p.1, in_of_place p.0 (workers_at_node job edge.to) (worker_among job.columns def.func def.workers t) p.1)

-- ---- the lane of a tuple

-- the lane that a sender's tuple goes on: along the port's edge, to a worker of the node at its end
pub record GoesOn (job : JobView) (sender : Option ℕ) (node port : ℕ) (t : Tuple) : Type 0 where
  pub lane : Lane
  pub lane_is : lane_of job sender node port t ≡ Some lane
  pub n : ℕ
  pub there : slice_get (lanes job) n ≡ Some lane
  pub sent_by : lane.sender ≡ sender
  pub number : ℕ
  pub edge : Edge
  pub found : first_on node port (enumerate_from 0 job.edges) ≡ Some (number, edge)
  pub edge_is : slice_get job.edges number ≡ Some edge
  pub edge_number : lane.edge ≡ number
  pub from : edge.from ≡ node

pub goes_on : (job : JobView) (connected : IsConnected job) (sender : Option ℕ) (node port : ℕ) (t : Tuple) → has_port job.edges node port ≡ true → IsIn sender (senders job node) → GoesOn job sender node port t
goes_on job connected sender node port t h s =
    let p : HasPortEdge job.edges node port 0 = port_edge job.edges node port 0 h in
    let at : p.at ≡ p.number = omega (arith, p.number_is) in
    let edge_is : slice_get job.edges p.number ≡ Some p.edge = subst (λ k. slice_get job.edges k ≡ Some p.edge) at p.edge_is in
    let r = receiver_there job connected p.number p.edge t edge_is in
    let l = lane_of_edge job p.number p.edge sender r.0 edge_is (subst (λ v. IsIn sender (senders job v)) (sym p.from) s) r.2 in
    record {
      lane = record { edge = p.number; sender = sender; receiver = r.0.number };
      lane_is = ap (λ o. lane_along job sender o t) p.found ∙ ap (option_map (λ (who : Worker). record { edge = p.number; sender = sender; receiver = who.number })) r.1;
      n = l.0;
      there = l.1;
      sent_by = refl;
      number = p.number;
      edge = p.edge;
      found = p.found;
      edge_is = edge_is;
      edge_number = refl;
      from = p.from;
    }
