-- Where a tuple goes by the tables of a topology, and what else is read from them.
use Rattle.std.proofs.Common.{◌≡◌, ◌<◌, ◌+◌, ◌*◌, ◌^◌, ◌==◌, ◌&&◌, ℕ, List, [], ◌∷◌, Bool, true, false, cond, length, map, get_or, Option, Some, None, refl, sym, ap, subst, ◌∙◌, arith}
use Rattle.std.specs.Prelude.{filter, option_map, slice_get}
use Rattle.std.specs.List.{enumerate_from, range_with_len}
use Rattle.std.proofs.lemmas.List.FromFn.{length-map-range_with_len}
use Rattle.std.proofs.lemmas.Option.{get_or_from_slice_get, same_Some, slice_get-get_or, slice_get-map, slice_get_within}
use Rattle.flow_dag.specs.declared.edge.Edge.{Edge}
use Rattle.jobs.specs.Law.{IsLawful}
use Rattle.jobs.specs.Nodes.{is_source_node, workers_of}
use Rattle.jobs.specs.declared.func.NodeDef.{NodeDef}
use Rattle.jobs.specs.JobView.{JobView}
use Rattle.operators.specs.Lanes.{worker_along, worker_among, worker_at, worker_for}
use Rattle.tuple_trace.specs.declared.tuple.Tuple.{Tuple}
use Rattle.flow_model.specs.declared.topology.Lane.{Lane}
use Rattle.flow_model.specs.declared.topology.OutEdge.{OutEdge}
use Rattle.flow_model.specs.declared.topology.WorkerAt.{WorkerAt}
use Rattle.flow_model.specs.Lanes.{first_on, lane_along, lanes, receiver_of, senders}
use Rattle.flow_model.specs.SetupView.{Worker}
use Rattle.flow_model.specs.Topology.{IsNumberOf, first_with, first_worker, out_edge, out_edges, worker_of}
use Rattle.flow_model.specs.Workers.{nth_worker, workers_in, workers_at_node}
use Rattle.flow_model.proofs.ElementLemmas.{IsIn, in_of_place}
use Rattle.flow_model.proofs.FitLemmas.{among_within}
use Rattle.flow_model.proofs.LaneLemmas.{lane_is, sender_source, sender_worker}
use Rattle.flow_model.proofs.LaneNumbers.{first_on-edge, get-lane, receiver_there}
use Rattle.flow_model.proofs.WorkerListLemmas.{who_by}
use Rattle.flow_model.proofs.WorkerPlaces.{get-nth_worker, get-workers_at_node}
use Rattle.flow_model.proofs.SizeLemmas.{entered, lanes-few}
use Rattle.flow_model.proofs.WorkerLemmas.{worker_with}
use Rattle.flow_model.proofs.TopologyLemmas.{get-range, item_read}

-- ---- where a tuple goes

first_with-first : (job : JobView) (node port : ℕ) (ps : List (ℕ × Edge))
    → first_with port (map (out_edge job) (filter (λ (edge : ℕ × Edge). edge.1.from == node) ps)) ≡ option_map (out_edge job) (first_on node port ps)
first_with-first job node port [] = refl
first_with-first job node port (p ∷ ps) = go (p.1.from == node) (p.1.port == port) (first_with-first job node port ps)
  where
    rest : List OutEdge
    rest = map (out_edge job) (filter (λ (edge : ℕ × Edge). edge.1.from == node) ps)

    go : (a b : Bool) → first_with port (map (out_edge job) (filter (λ (edge : ℕ × Edge). edge.1.from == node) ps)) ≡ option_map (out_edge job) (first_on node port ps)
        → first_with port (map (out_edge job) (cond a (p ∷ filter (λ (edge : ℕ × Edge). edge.1.from == node) ps) (filter (λ (edge : ℕ × Edge). edge.1.from == node) ps)))
        ≡ option_map (out_edge job) (cond (a && (p.1.port == port)) (Some p) (first_on node port ps))
    go true b h = by_port (p.1.port == port) h
      where
        by_port : (b : Bool) → first_with port rest ≡ option_map (out_edge job) (first_on node port ps)
            → cond b (Some (out_edge job p)) (first_with port rest) ≡ option_map (out_edge job) (cond b (Some p) (first_on node port ps))
        by_port true h = refl
        by_port false h = h
    go false b h = h

-- what is known of an edge that was found by its port
pub record IsOutEdge (job : JobView) (node port : ℕ) (out : OutEdge) : Type 0 where
  pub edge : Edge
  pub edge_is : slice_get job.edges out.edge ≡ Some edge
  pub from_is : edge.from ≡ node
  pub made : out ≡ out_edge job (out.edge, edge)
  pub first : first_on node port (enumerate_from 0 job.edges) ≡ Some (out.edge, edge)

pub found_out : (job : JobView) (node port : ℕ) (outs : List OutEdge) (out : OutEdge) → outs ≡ out_edges job node → Some out ≡ first_with port outs → IsOutEdge job node port out
found_out job node port outs out same is = go (first_on node port (enumerate_from 0 job.edges)) refl all
  where
    all : option_map (out_edge job) (first_on node port (enumerate_from 0 job.edges)) ≡ Some out
    all = sym (first_with-first job node port (enumerate_from 0 job.edges)) ∙ (ap (first_with port) (sym same) ∙ sym is)

    go : (o : Option (ℕ × Edge)) → first_on node port (enumerate_from 0 job.edges) ≡ o → option_map (out_edge job) o ≡ Some out → IsOutEdge job node port out
    go None g e = absurd (cc)
    go (Some p) g e =
        let made : out_edge job p ≡ out = same_Some (out_edge job p) out e in
        let num : p.0 ≡ out.edge = ap (λ (x : OutEdge). x.edge) made in
        let r = first_on-edge node port 0 job.edges p g in
        let at : r.0 ≡ out.edge = omega (arith, r.1, num) in
        record {
          edge = p.1;
          edge_is = ap (slice_get job.edges) (sym at) ∙ r.2;
          from_is = r.3;
          made = sym made ∙ ap (λ (m : ℕ). out_edge job (m, p.1)) num;
          first = g ∙ ap (λ (m : ℕ). Some (m, p.1)) num;
        }

pub no_out : (job : JobView) (node port : ℕ) (outs : List OutEdge) → outs ≡ out_edges job node → None ≡ first_with port outs → first_on node port (enumerate_from 0 job.edges) ≡ None
no_out job node port outs same is = go (first_on node port (enumerate_from 0 job.edges)) (sym (first_with-first job node port (enumerate_from 0 job.edges)) ∙ (ap (first_with port) (sym same) ∙ sym is))
  where
    go : (o : Option (ℕ × Edge)) → option_map (out_edge job) o ≡ None → o ≡ None
    go None e = refl
    go (Some p) e = absurd (cc)

-- the worker that a tuple reaches along an edge
pub record IsReached (job : JobView) (edge : Edge) (tuple : Tuple) (worker : ℕ) : Type 0 where
  pub def : NodeDef
  pub node_is : slice_get job.nodes edge.to ≡ Some def
  pub below : worker < workers_of def
  pub reached : receiver_of job edge tuple ≡ Some (who_by (first_worker job edge.to + worker) edge.to def.func worker)

pub is_reached : (job : JobView) (number : ℕ) (edge : Edge) (tuple : Tuple) (worker : ℕ) → IsLawful job → slice_get job.edges number ≡ Some edge → worker ≡ worker_along job number tuple
    → IsReached job edge tuple worker
is_reached job number edge tuple worker law e is =
    let to = entered job number edge law e in
    let at : worker ≡ worker_among job.columns to.def.func to.def.workers tuple = is ∙ (ap (λ (o : Option Edge). worker_for job o tuple) e ∙ ap (λ (o : Option NodeDef). worker_at job.columns o tuple) to.node_is) in
    let b = among_within job to.def.func to.def.workers tuple to.some in
    let below : worker < workers_of to.def = omega (arith, at, b, to.all) in
    record {
      def = to.def;
      node_is = to.node_is;
      below = below;
      reached =
          ap (λ (o : Option NodeDef). slice_get (workers_at_node job edge.to) (worker_at job.columns o tuple)) to.node_is
          ∙ (ap (slice_get (workers_at_node job edge.to)) (sym at) ∙ get-workers_at_node job edge.to to.def worker to.node_is below);
    }

pub lane_made : (job : JobView) (out : OutEdge) (edge : Edge) (node place worker : ℕ) (tuple : Tuple) (sender : Option ℕ) (number : ℕ) → IsLawful job → slice_get job.edges out.edge ≡ Some edge → edge.from ≡ node
    → out ≡ out_edge job (out.edge, edge) → slice_get (senders job node) place ≡ Some sender → worker ≡ worker_along job out.edge tuple
    → number ≡ out.first_lane + place * out.receivers + worker
    → IsNumberOf job (lane_along job sender (Some (out.edge, edge)) tuple) number
lane_made job out edge node place worker tuple sender number law e from made sends is number_is = (
  record { edge = out.edge; sender = sender; receiver = first_worker job edge.to + worker },
  ap (option_map (λ (who : Worker). record { edge = out.edge; sender = sender; receiver = who.number })) reached.reached,
  get-lane job out.edge edge place worker sender (who_by (first_worker job edge.to + worker) edge.to reached.def.func worker) number e
      (ap (λ (n : ℕ). slice_get (senders job n) place) from ∙ sends) (get-workers_at_node job edge.to reached.def worker reached.node_is reached.below)
      (number_is ∙ ap (λ (x : OutEdge). x.first_lane + place * x.receivers + worker) made),
)
  where
    reached : IsReached job edge tuple worker
    reached = is_reached job out.edge edge tuple worker law e is

-- the number is that of a lane
pub lane_fits : (job : JobView) (out : OutEdge) (edge : Edge) (node place worker : ℕ) (tuple : Tuple) → IsLawful job → slice_get job.edges out.edge ≡ Some edge → edge.from ≡ node
    → out ≡ out_edge job (out.edge, edge) → place < length (senders job node) → worker ≡ worker_along job out.edge tuple
    → out.first_lane + place * out.receivers + worker < 2 ^ 32
lane_fits job out edge node place worker tuple law e from made lt is =
    let sender = get_or (senders job node) place None in
    let (lane, along, numbered) = lane_made job out edge node place worker tuple sender (out.first_lane + place * out.receivers + worker) law e from made (slice_get-get_or (senders job node) place None lt) is refl in
    let within = slice_get_within (lanes job) (out.first_lane + place * out.receivers + worker) lane numbered in
    omega (arith, within, lanes-few job law)

-- a node with senders is a node of the job
pub sends_within : (job : JobView) (node place : ℕ) → place < length (senders job node) → node < length job.nodes
sends_within job node place lt =
    let there = slice_get-get_or (senders job node) place None lt in
    go (get_or (senders job node) place None) (in_of_place _ (senders job node) place there)
  where
    found : (o : Option NodeDef) → slice_get job.nodes node ≡ o → is_source_node o ≡ true → node < length job.nodes
    found None e s = absurd (cc)
    found (Some def) e s = slice_get_within job.nodes node def e

    go : (sender : Option ℕ) → IsIn sender (senders job node) → node < length job.nodes
    go None i = found (slice_get job.nodes node) refl (sender_source job node i)
    go (Some w) i =
        let (who, at, number, node_is) = sender_worker job node w i in
        let is = (worker_with job w who at).1 in
        slice_get_within job.nodes node is.def (subst (λ (n : ℕ). slice_get job.nodes n ≡ Some is.def) node_is is.node_is)

-- ---- entries that the code reads

-- a row of a table that the code reads
pub row_at : {A : Type 0} (f : ℕ → List A) (n i : ℕ) (table all : List (List A)) (row result : List A) → table ≡ map f (range_with_len 0 n) → all ≡ table → i < n
    → row ≡ get_or all i row → result ≡ row → result ≡ f i
row_at f n i table all row result is same lt read made =
    let long = ap length is ∙ length-map-range_with_len f 0 n in
    let at = item_read all table i row same (omega (arith, lt, long)) read in
    made ∙ get-range f 0 n i i row (omega arith) (ap (λ l. slice_get l i) (sym is) ∙ at)

-- a place of a table that the code may read
pub row_within : {A : Type 0} (f : ℕ → List A) (n i : ℕ) (table all : List (List A)) → table ≡ map f (range_with_len 0 n) → all ≡ table → i < n → i < length all
row_within f n i table all is same lt = let long = ap length (same ∙ is) ∙ length-map-range_with_len f 0 n in omega (arith, lt, long)

-- a lane that the code reads
abbrev pub lane_read : List Lane → ℕ → Lane
lane_read all n = get_or all n (record { edge = 0; sender = None; receiver = 0 })

pub lane_limits : (job : JobView) (all : List Lane) (n : ℕ) → IsLawful job → all ≡ lanes job → n < length (lanes job) → ((lane_read all n).edge < 128) × ((lane_read all n).receiver < length (workers_in job))
lane_limits job all n law same lt =
    let at : slice_get (lanes job) n ≡ Some (lane_read all n) =
    ap (λ (l : List Lane). slice_get l n) (sym same) ∙ slice_get-get_or all n (record { edge = 0; sender = None; receiver = 0 }) (let e = ap (length {A = Lane}) same in omega (arith, lt, e)) in
    let is = lane_is job n (lane_read all n) at in (
      (let e = slice_get_within job.edges (lane_read all n).edge is.edge is.edge_is in let m = law.limits.edges in omega (arith, e, m)),
      slice_get_within (workers_in job) (lane_read all n).receiver is.to (receiver_there job (lane_read all n) is),
    )

-- a worker that the code reads
abbrev pub worker_read : List WorkerAt → ℕ → WorkerAt
worker_read all w = get_or all w (record { node = 0; place = 0 })

pub worker_is_at : (job : JobView) (all : List WorkerAt) (w : ℕ) → all ≡ map worker_of (workers_in job) → w < length (workers_in job) → worker_read all w ≡ worker_of (nth_worker job w)
worker_is_at job all w same lt =
    get_or_from_slice_get all w (worker_of (nth_worker job w)) (record { node = 0; place = 0 })
    (ap (λ (l : List WorkerAt). slice_get l w) same ∙ (slice_get-map worker_of (workers_in job) w ∙ ap (option_map worker_of) (get-nth_worker job w lt)))
