-- What a lawful job has: few workers and lanes, and workers wherever an edge leads.
use Rattle.std.proofs.Common.{◌≡◌, ◌<◌, ◌≤◌, ◌+◌, ◌*◌, ◌^◌, ◌==◌, ℕ, zero, suc, List, [], ◌∷◌, Bool, true, false, cond, length, map, take, Some, None, ap, ◌∙◌, arith}
use Rattle.std.specs.Prelude.{slice_get}
use Rattle.std.specs.List.{enumerate_from}
use Rattle.std.proofs.lemmas.List.{length-map}
use Rattle.std.proofs.lemmas.List.FromFn.{length-enumerate_from}
use Rattle.std.proofs.lemmas.List.Sums.{count_by-le-length, length-filter}
use Rattle.std.proofs.Math.Nat.{mul-le-mul}
use Rattle.flow_dag.specs.declared.edge.Edge.{Edge}
use Rattle.jobs.specs.Law.{IsLawful}
use Rattle.jobs.specs.Nodes.{is_source, is_source_node, worker_count, workers_of}
use Rattle.jobs.specs.declared.func.NodeDef.{NodeDef}
use Rattle.jobs.specs.JobView.{JobView}
use Rattle.flow_model.specs.Lanes.{lanes, lanes_of, senders}
use Rattle.flow_model.specs.SetupView.{Worker}
use Rattle.flow_model.specs.Workers.{workers_in, workers_at_node}
use Rattle.flow_model.proofs.JobLemmas.{inside_edge, one_worker, unentered}
use Rattle.flow_model.proofs.LaneLemmas.{lanes_from}
use Rattle.flow_model.proofs.WorkerListLemmas.{length-workers_from}
use Rattle.flow_model.proofs.WorkerLemmas.{all_workers, item_at}
use Rattle.flow_model.specs.Topology.{first_worker, lanes_along}
use Rattle.flow_model.proofs.PieceLemmas.{length-all_pieces, length-few_pieces}
use Rattle.flow_model.proofs.LaneNumbers.{length-lanes_from}

-- ---- how many workers

pub worker_count-more : (nodes : List NodeDef) (k : ℕ) (def : NodeDef) → slice_get nodes k ≡ Some def → worker_count (take (k + 1) nodes) ≡ worker_count (take k nodes) + workers_of def
worker_count-more [] k def e = absurd (cc)
worker_count-more (x ∷ xs) zero def e =
    let same : x ≡ def = cc in
    let z : 0 + 1 ≡ suc 0 = omega arith in
    ap (λ (m : ℕ). worker_count (take m (x ∷ xs))) z ∙ (let w : workers_of x ≡ workers_of def = ap workers_of same in omega (arith, w))
worker_count-more (x ∷ xs) (suc k) def e =
    let z : suc k + 1 ≡ suc (k + 1) = omega arith in
    ap (λ (m : ℕ). worker_count (take m (x ∷ xs))) z ∙ (let r = worker_count-more xs k def e in omega (arith, r))

pub worker_count-take : (nodes : List NodeDef) (k : ℕ) → worker_count (take k nodes) ≤ worker_count nodes
worker_count-take [] zero = omega arith
worker_count-take [] (suc k) = omega arith
worker_count-take (x ∷ xs) zero = omega arith
worker_count-take (x ∷ xs) (suc k) = let r = worker_count-take xs k in omega (arith, r)

-- the workers of a node and those before them are no more than there are
pub first_worker-workers : (job : JobView) (node : ℕ) (def : NodeDef) → IsLawful job → slice_get job.nodes node ≡ Some def → first_worker job node + workers_of def ≤ 64
first_worker-workers job node def law e =
    omega (arith, worker_count-more job.nodes node def e, worker_count-take job.nodes (node + 1), law.limits.all_workers)

pub workers-few : (job : JobView) → IsLawful job → length (workers_in job) ≤ 64
workers-few job law = omega (arith, length-workers_from 0 0 job.nodes, law.limits.all_workers)

workers_at_node-few : (job : JobView) (node : ℕ) → IsLawful job → length (workers_at_node job node) ≤ 64
workers_at_node-few job node law =
    omega (arith, length-filter (λ (who : Worker). who.node == node) (workers_in job), count_by-le-length (λ (who : Worker). who.node == node) (workers_in job), workers-few job law)

senders-few : (job : JobView) (node : ℕ) → IsLawful job → length (senders job node) ≤ 64
senders-few job node law = go (is_source_node (slice_get job.nodes node))
  where
    go : (b : Bool) → length (cond b (None ∷ []) (map (λ (who : Worker). Some who.number) (workers_at_node job node))) ≤ 64
    go true = omega arith
    go false = omega (arith, length-map (workers_at_node job node) (λ (who : Worker). Some who.number), workers_at_node-few job node law)

-- ---- how many lanes

product_few : (a b : ℕ) → a ≤ 64 → b ≤ 64 → a * b ≤ 4096
product_few a b la lb = let h : a * b ≤ 64 * 64 = mul-le-mul la lb in h

lanes_of-few : (job : JobView) (number : ℕ) (edge : Edge) → IsLawful job → length (lanes_of job number edge) ≤ 4096
lanes_of-few job number edge law =
    omega (
      arith,
      length-all_pieces (lanes_from job number edge) (length (workers_at_node job edge.to)) (length-lanes_from job number edge) (senders job edge.from),
      product_few (length (senders job edge.from)) (length (workers_at_node job edge.to)) (senders-few job edge.from law) (workers_at_node-few job edge.to law),
    )

pub lanes-few : (job : JobView) → IsLawful job → length (lanes job) < 2 ^ 32
lanes-few job law =
    let few = length-few_pieces (lanes_along job) 4096 (λ p. lanes_of-few job p.0 p.1 law) (enumerate_from 0 job.edges) in
    let edges = length-enumerate_from 0 job.edges in
    omega (arith, few, edges, law.limits.edges)

-- ---- edges

-- a node into which an edge leads has workers
pub record HasWorkers (job : JobView) (node : ℕ) : Type 0 where
  pub def : NodeDef
  pub node_is : slice_get job.nodes node ≡ Some def
  pub all : workers_of def ≡ def.workers
  pub some : 1 ≤ def.workers

pub entered : (job : JobView) (i : ℕ) (edge : Edge) → IsLawful job → slice_get job.edges i ≡ Some edge → HasWorkers job edge.to
entered job i edge law e =
    let (def, there) = item_at job.nodes edge.to (inside_edge job law i edge e).1 in
    let into = unentered job law i edge e in
    let unsourced : is_source def.func ≡ false = rw there at into in
    record { def = def; node_is = there; all = all_workers def unsourced; some = one_worker job law edge.to def there }
