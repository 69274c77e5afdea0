-- Workers by their numbers, and by their nodes.
use Rattle.std.proofs.Common.{◌≡◌, ◌<◌, ◌+◌, ℕ, List, length, Some, refl, sym, ap, subst, ◌∙◌, arith}
use Rattle.std.specs.Prelude.{option_map, slice_get}
use Rattle.std.proofs.lemmas.Option.{get_or_from_slice_get, same_Some, slice_get-get_or, slice_get_within}
use Rattle.jobs.specs.Nodes.{workers_of}
use Rattle.jobs.specs.declared.func.NodeDef.{NodeDef}
use Rattle.jobs.specs.JobView.{JobView}
use Rattle.flow_model.specs.InForce.{func_in}
use Rattle.flow_model.specs.SetupView.{SetupView, Worker}
use Rattle.flow_model.specs.Workers.{nobody, nth_worker, workers_in, workers_at_node}
use Rattle.flow_model.proofs.ElementLemmas.{in_of_place, place_of_in}
use Rattle.flow_model.proofs.WorkerListLemmas.{get-node_workers, length-workers_at_node, who_by, workers_at_node-node}
use Rattle.flow_model.proofs.WorkerLemmas.{IsWorker, workers_at_node_in, worker_with}
use Rattle.flow_model.specs.Topology.{first_worker}
use Rattle.flow_model.specs.declared.in_force.InForce.TheVariants.{Own}

-- ---- all workers

pub get-nth_worker : (job : JobView) (w : ℕ) → w < length (workers_in job) → slice_get (workers_in job) w ≡ Some (nth_worker job w)
get-nth_worker job w lt = slice_get-get_or (workers_in job) w nobody lt

pub nth_worker-get : (job : JobView) (w : ℕ) (who : Worker) → slice_get (workers_in job) w ≡ Some who → nth_worker job w ≡ who
nth_worker-get job w who e = get_or_from_slice_get (workers_in job) w who nobody e

pub worker_at : (job : JobView) (w : ℕ) → w < length (workers_in job) → ((nth_worker job w).number ≡ w) × IsWorker job (nth_worker job w)
worker_at job w lt = worker_with job w (nth_worker job w) (get-nth_worker job w lt)

pub node_below : (job : JobView) (w : ℕ) → w < length (workers_in job) → (nth_worker job w).node < length job.nodes
node_below job w lt = let (number, is) = worker_at job w lt in slice_get_within job.nodes (nth_worker job w).node is.def is.node_is

-- the function of a worker is that of the job at first
pub own_func : (setup : SetupView) (w : ℕ) → w < length (workers_in setup.job) → func_in setup (nth_worker setup.job w).node Own ≡ Some (nth_worker setup.job w).func
own_func setup w there =
    let is = (worker_at setup.job w there).1 in
    ap (option_map (λ (def : NodeDef). def.func)) is.node_is ∙ ap Some (sym is.func_is)

-- ---- the workers of a node

-- the worker at a place of a node
pub get-workers_at_node : (job : JobView) (node : ℕ) (def : NodeDef) (place : ℕ) → slice_get job.nodes node ≡ Some def → place < workers_of def
    → slice_get (workers_at_node job node) place ≡ Some (who_by (first_worker job node + place) node def.func place)
get-workers_at_node job node def place g lt =
    let z : 0 + place ≡ place = omega arith in
    ap (λ (l : List Worker). slice_get l place) (workers_at_node-node job node def g)
    ∙ (get-node_workers (first_worker job node) node def.func 0 (workers_of def) place lt ∙ ap (λ (m : ℕ). Some (who_by (first_worker job node + place) node def.func m)) z)

-- each worker is among those of its node, at its place
pub get-worker_place : (job : JobView) (w : ℕ) (who : Worker) → slice_get (workers_in job) w ≡ Some who → slice_get (workers_at_node job who.node) who.place ≡ Some who
get-worker_place job w who e =
    let (number, is) = worker_with job w who e in
    let (k, there) = place_of_in who (workers_at_node job who.node) (workers_at_node_in job who.node who (in_of_place who (workers_in job) w e) refl) in
    let within = slice_get_within (workers_at_node job who.node) k who there in
    let made = get-workers_at_node job who.node is.def k is.node_is (omega (arith, within, length-workers_at_node job who.node is.def is.node_is)) in
    let same : who_by (first_worker job who.node + k) who.node is.def.func k ≡ who = same_Some (who_by (first_worker job who.node + k) who.node is.def.func k) who (sym made ∙ there) in
    subst (λ (m : ℕ). slice_get (workers_at_node job who.node) m ≡ Some who) (ap (λ (p : Worker). p.place) same) there
