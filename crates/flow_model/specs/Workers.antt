-- The workers of a job.
use Rattle.std.specs.Prelude.{ℕ, zero, suc, ◌+◌, ◌==◌, List, [], ◌∷◌, ◌++◌, filter, slice_index_or}
use Rattle.jobs.specs.Nodes.{workers_of}
use Rattle.jobs.specs.JobView.{JobView}
use Rattle.jobs.specs.declared.func.Func.{Func}
use Rattle.jobs.specs.declared.func.Func.TheVariants as func
use Rattle.jobs.specs.declared.func.NodeDef.{NodeDef}
use Rattle.flow_model.specs.SetupView.{Worker}

-- the workers of a node that are left, from this number and this place on
abbrev pub node_workers : ℕ → ℕ → Func → ℕ → ℕ → List Worker
node_workers number node func place zero = []
node_workers number node func place (suc left) =
    record { number = number; node = node; place = place; func = func } ∷ node_workers
    (number + 1) node func (place + 1) left

-- the workers of these nodes, node by node; number and node are the first ones
abbrev pub workers_from : ℕ → ℕ → List NodeDef → List Worker
workers_from number node [] = []
workers_from number node (def ∷ more) =
    node_workers number node def.func 0 (workers_of def)
    ++ workers_from (number + workers_of def) (node + 1) more

-- the workers of a job, in the order of their numbers: through the nodes in order, and at each node
-- by their places
abbrev pub workers_in : JobView → List Worker
workers_in job = workers_from 0 0 job.nodes

-- the workers of a node, by their places
abbrev pub workers_at_node : JobView → ℕ → List Worker
workers_at_node job node = filter (λ (who : Worker). who.node == node) (workers_in job)

-- the worker with a number; past the last one, a worker of no node
abbrev pub nobody : Worker
nobody = record { number = 0; node = 0; place = 0; func = func.Source }

abbrev pub nth_worker : JobView → ℕ → Worker
nth_worker job worker = slice_index_or (workers_in job) worker nobody
