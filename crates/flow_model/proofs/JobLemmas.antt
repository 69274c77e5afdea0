-- What the type of a job keeps, as the laws of runs use it.
use Rattle.std.proofs.Common.{◌≡◌, ◌∙◌, ◌<◌, ◌≤◌, ◌==◌, ◌&&◌, ℕ, zero, suc, List, [], ◌∷◌, inl, refl, sym, subst, ap, arith, true, false, Bool, cond, length, map, get_or, Some, None, Option, slice_get}
use Rattle.std.proofs.lemmas.Bool.{and_from, and_parts, eq-eqb, eqb-true, not-true, or_parts}
use Rattle.std.proofs.lemmas.List.Folds.{Any-from_list_any, list_any_at}
use Rattle.std.proofs.lemmas.Option.{get_or_from_slice_get, slice_get-get_or, slice_get_within}
use Rattle.flow_dag.specs.Dag.{DagView}
use Rattle.flow_dag.specs.Edges.{HasEdge, IsInside}
use Rattle.flow_dag.specs.Order.{place_of}
use Rattle.flow_dag.specs.declared.edge.Edge.{Edge}
use Rattle.flow_dag.proofs.EdgeLemmas.{HasEdge-at}
use Rattle.flow_dag.proofs.PlaceLemmas.{place_of-below, place_of-forward}
use Rattle.jobs.specs.Law.{IsLawful}
use Rattle.jobs.specs.Nodes.{is_source, is_source_node, most_workers}
use Rattle.jobs.specs.Ports.{are_ports, has_edge, has_ports, is_entered, leads_twice, leaves, may_enter, may_leave, out_count}
use Rattle.jobs.specs.JobView.{JobView}
use Rattle.jobs.proofs.RoleLemmas.{other_entered, source_unentered}
use Rattle.jobs.specs.declared.func.Func.{Func}
use Rattle.jobs.specs.declared.func.NodeDef.{NodeDef}
use Rattle.flow_model.specs.Lanes.{lanes_in, senders}
use Rattle.flow_model.specs.declared.topology.Lane.{Lane}
use Rattle.flow_model.specs.SetupView.{Worker}
use Rattle.flow_model.specs.Workers.{workers_in, workers_at_node}
use Rattle.flow_model.proofs.ElementLemmas.{IsIn, at_of_all, in_any, in_of_place, map_in}
use Rattle.flow_model.proofs.WorkerListLemmas.{length-workers_at_node}
use Rattle.flow_model.proofs.WorkerLemmas.{IsWorker, all_workers, item_at, workers_at_node_in}
use Rattle.flow_model.proofs.LaneLemmas.{lane_of_edge, lanes_that_in}

-- What the laws of runs use of a job: its edges lead from lower ranks to higher ones, none into a source; every other node has a worker, each
-- worker has a lane in, and the edges of each node are those of its kind.
pub record IsConnected (job : JobView) : Type 0 where
  pub rank : ℕ → ℕ
  pub below : (node : ℕ) → node < length job.nodes → rank node < length job.nodes
  pub forward : (i : ℕ) (edge : Edge) → slice_get job.edges i ≡ Some edge → rank edge.from < rank edge.to
  pub ends : (i : ℕ) (edge : Edge) → slice_get job.edges i ≡ Some edge → IsInside (length job.nodes) edge
  pub into : (i : ℕ) (edge : Edge) → slice_get job.edges i ≡ Some edge → is_source_node (slice_get job.nodes edge.to) ≡ false
  pub ports : (node : ℕ) (def : NodeDef) → slice_get job.nodes node ≡ Some def → are_ports job.edges node def.func ≡ true
  pub manned : (node : ℕ) (def : NodeDef) → slice_get job.nodes node ≡ Some def → is_source def.func ≡ false → (who : Worker) × IsIn who (workers_at_node job node)
  pub reached : (who : Worker) → IsWorker job who → (n : ℕ) × IsIn n (lanes_in job who.number)

pub inside_edge : (job : JobView) → IsLawful job → (i : ℕ) (edge : Edge) → slice_get job.edges i ≡ Some edge → IsInside (length job.nodes) edge
inside_edge job is i edge g =
    at_of_all (IsInside (length job.nodes)) edge job.edges is.endpoints (in_of_place edge job.edges i g)

-- ---- which nodes are entered

-- a node whose edges are those of its function's kind is entered as that kind is, left by as many edges, and has a port for each
pub ports_by_kind : (edges : List Edge) (node : ℕ) (f : Func) → are_ports edges node f ≡ true
    → (may_enter f (is_entered edges node) ≡ true) × (may_leave f (out_count edges node) ≡ true) × (has_ports edges node (out_count edges node) ≡ true)
unfolding are_ports
ports_by_kind edges node f all =
    let kinds = and_parts _ _ all in
    let ports = and_parts _ _ kinds.0 in
    let enter = and_parts _ _ ports.0 in
    (enter.0, enter.1, ports.1)

-- of the edges of such a node only one leads to another
pub one_edge_to : (edges : List Edge) (node : ℕ) (f : Func) → are_ports edges node f ≡ true → (i j : ℕ) (a b : Edge) → slice_get edges i ≡ Some a → slice_get edges j ≡ Some b
    → a.from ≡ node → b.from ≡ node → a.to ≡ b.to → a ≡ b
unfolding are_ports
one_edge_to edges node f all i j a b g h p q e = go edges (not-true (leads_twice edges node) (and_parts _ _ all).1) i j g h
  where
    here : (x y : Edge) (more : List Edge) (k : ℕ) → slice_get more k ≡ Some y → x.from ≡ node → y.from ≡ node → x.to ≡ y.to → leads_twice (x ∷ more) node ≡ false → ⊥
    here x y more k g p q e none =
        let first = (or_parts (leaves node x && has_edge more node x.to) (leads_twice more node) none).0 in
        let leave : leaves node x ≡ true = eq-eqb x.from node p in
        let lead : has_edge more node x.to ≡ true =
        in_any (λ (z : Edge). z.from == node && z.to == x.to) y more (in_of_place y more k g) (and_from (y.from == node) (y.to == x.to) (eq-eqb y.from node q) (eq-eqb y.to x.to (sym e))) in
        let both : (leaves node x && has_edge more node x.to) ≡ true = and_from (leaves node x) (has_edge more node x.to) leave lead in
        absurd (cc)

    go : (es : List Edge) → leads_twice es node ≡ false → (i j : ℕ) → slice_get es i ≡ Some a → slice_get es j ≡ Some b → a ≡ b
    go [] none i j g h = absurd (cc)
    go (x ∷ more) none zero zero g h = cc
    go (x ∷ more) none zero (suc j) g h = let is : x ≡ a = cc in absurd (here x b more j h (ap (λ (z : Edge). z.from) is ∙ p) q (ap (λ (z : Edge). z.to) is ∙ e) none)
    go (x ∷ more) none (suc i) zero g h = let is : x ≡ b = cc in absurd (here x a more i g (ap (λ (z : Edge). z.from) is ∙ q) p (ap (λ (z : Edge). z.to) is ∙ sym e) none)
    go (x ∷ more) none (suc i) (suc j) g h = go more (or_parts (leaves node x && has_edge more node x.to) (leads_twice more node) none).1 i j g h

edge_enters : (edges : List Edge) (i : ℕ) (edge : Edge) → slice_get edges i ≡ Some edge → is_entered edges edge.to ≡ true
edge_enters edges i edge g =
    let here : get_or edges i edge ≡ edge = get_or_from_slice_get edges i edge edge g in
    list_any_at (λ (e : Edge). e.to == edge.to) edges i edge (slice_get_within edges i edge g) (eq-eqb (get_or edges i edge).to edge.to (ap (λ (e : Edge). e.to) here))

edge_into : (edges : List Edge) (node : ℕ) → is_entered edges node ≡ true → (i : ℕ) × (edge : Edge) × (slice_get edges i ≡ Some edge) × (edge.to ≡ node)
edge_into edges node h =
    let (i, edge, lt, at, e) = Any-from_list_any (λ (e : Edge). e.to == node) edges h in
    (i, edge, slice_get-get_or edges i edge lt ∙ ap Some at, eqb-true edge.to node e)

-- ---- each node but a source has a worker

pub one_worker : (job : JobView) → IsLawful job → (node : ℕ) (def : NodeDef) → slice_get job.nodes node ≡ Some def → 1 ≤ def.workers
one_worker job is node def g =
    (at_of_all (λ (n : NodeDef). (1 ≤ n.workers) × (n.workers ≤ most_workers n.func)) def job.nodes is.limits.workers (in_of_place def job.nodes node g)).0

manned_node : (job : JobView) → IsLawful job → (node : ℕ) (def : NodeDef) → slice_get job.nodes node ≡ Some def → is_source def.func ≡ false → (who : Worker) × IsIn who (workers_at_node job node)
manned_node job is node def g e =
    let (who, first) = item_at (workers_at_node job node) 0 (omega (arith, length-workers_at_node job node def g, all_workers def e, one_worker job is node def g)) in
    (who, in_of_place who (workers_at_node job node) 0 first)

-- ---- each worker has a lane in

some_sender : (job : JobView) → IsLawful job → (node : ℕ) (def : NodeDef) → slice_get job.nodes node ≡ Some def → (sender : Option ℕ) × IsIn sender (senders job node)
some_sender job is node def g = rw g (go (is_source def.func) refl)
  where
    go : (b : Bool) → is_source def.func ≡ b → (sender : Option ℕ) × IsIn sender (cond b (None ∷ []) (map (λ (who : Worker). Some who.number) (workers_at_node job node)))
    go true e = (None, inl refl)
    go false e = let r = manned_node job is node def g e in (Some r.0.number, map_in (λ (who : Worker). Some who.number) r.0 (workers_at_node job node) r.1)

pub reached_worker : (job : JobView) → IsLawful job → (who : Worker) → IsWorker job who → IsIn who (workers_in job) → (n : ℕ) × IsIn n (lanes_in job who.number)
reached_worker job is who w here =
    let ports : are_ports job.edges who.node w.def.func ≡ true = is.ports who.node w.def w.node_is in
    let r = edge_into job.edges who.node (other_entered w.def.func (is_entered job.edges who.node) w.no_source (ports_by_kind job.edges who.node w.def.func ports).0) in
    let edge : Edge = r.1 in
    let inside : IsInside (length job.nodes) edge = inside_edge job is r.0 edge r.2 in
    let from = item_at job.nodes edge.from inside.0 in
    let s = some_sender job is edge.from from.0 from.1 in
    let l = lane_of_edge job r.0 edge s.0 who r.2 s.1 (workers_at_node_in job edge.to who here (sym r.3)) in
    (l.0, lanes_that_in (λ (lane : Lane). lane.receiver == who.number) job l.0 (record { edge = r.0; sender = s.0; receiver = who.number }) l.1 (eq-eqb who.number who.number refl))

-- ---- what a lawful job keeps

-- no edge leads into a source
pub unentered : (job : JobView) → IsLawful job → (i : ℕ) (edge : Edge) → slice_get job.edges i ≡ Some edge → is_source_node (slice_get job.nodes edge.to) ≡ false
unentered job is i edge g =
    let to = item_at job.nodes edge.to (inside_edge job is i edge g).1 in
    rw to.1 (go to.0 (is_source to.0.func) refl (ports_by_kind job.edges edge.to to.0.func (is.ports edge.to to.0 to.1)).0)
  where
    go : (def : NodeDef) (b : Bool) → is_source def.func ≡ b → may_enter def.func (is_entered job.edges edge.to) ≡ true → is_source def.func ≡ false
    go def true e may = let none = source_unentered def.func (is_entered job.edges edge.to) e may in let some = edge_enters job.edges i edge g in absurd (cc)
    go def false e may = e

pub connected_by_rank : (job : JobView) (rank : ℕ → ℕ) → IsLawful job → ((node : ℕ) → node < length job.nodes → rank node < length job.nodes)
    → ((i : ℕ) (edge : Edge) → slice_get job.edges i ≡ Some edge → rank edge.from < rank edge.to) → IsConnected job
connected_by_rank job rank is below forward = record {
  rank = rank;
  below = below;
  forward = forward;
  ends = inside_edge job is;
  into = unentered job is;
  ports = is.ports;
  manned = manned_node job is;
  reached = λ who w. reached_worker job is who w (in_of_place who (workers_in job) who.number w.there);
}

-- the places in an order of the nodes are ranks
pub connected : (job : JobView) (dag : DagView) → IsLawful job → dag.edges ≡ job.edges → dag.nodes ≡ length job.nodes → IsConnected job
connected job dag is edges nodes =
    connected_by_rank job (place_of dag.order) is (λ node lt. let k = place_of-below (HasEdge dag.edges) dag.nodes dag.order dag.lawful.ordered node (omega arith) in omega (arith, k))
    (λ i edge g.
    let inside : IsInside (length job.nodes) edge = inside_edge job is i edge g in
    place_of-forward (HasEdge dag.edges) dag.nodes dag.order dag.lawful.ordered edge.from edge.to (omega (arith, inside.0)) (omega (arith, inside.1)) (
    subst (λ (es : List Edge). HasEdge es edge.from edge.to) (sym edges) (HasEdge-at job.edges i edge g)))
