-- The counts of workers that have counted nothing.
use Rattle.std.proofs.Common.{◌≡◌, ◌∙◌, ◌<◌, ◌≤◌, ◌+◌, ◌++◌, ℕ, List, [], ◌∷◌, ap, refl, length, map, take}
use Rattle.std.proofs.lemmas.List.{length-map, map_more, take_all}
use Rattle.std.specs.FinMap.{empty}
use Rattle.jobs.specs.JobView.{JobView}
use Rattle.keyed_state.specs.Counts.{Counts}
use Rattle.flow_model.specs.Begin.{at_first}
use Rattle.flow_model.specs.SetupView.{SetupView, Worker}
use Rattle.flow_model.specs.Topology.{worker_of}
use Rattle.flow_model.specs.Workers.{workers_in}
use Rattle.flow_model.specs.declared.topology.WorkerAt.{WorkerAt}

abbrev pub uncounted : List WorkerAt → List Counts
uncounted workers = map (λ (worker : WorkerAt). empty) workers

-- one more worker that has counted nothing
pub uncounted-more : (workers : List WorkerAt) (i : ℕ) → i < length workers →
    uncounted (take (i + 1) workers) ≡ uncounted (take i workers) ++ empty ∷ []
uncounted-more workers i lt =
    map_more (λ (worker : WorkerAt). empty) workers i (record { node = 0; place = 0 }) lt

uncounted-of : (all : List Worker) → uncounted (map worker_of all) ≡ map (λ (who : Worker). empty) all
uncounted-of [] = refl
uncounted-of (who ∷ all) = ap (λ (counts : List Counts). empty ∷ counts) (uncounted-of all)

-- all workers of a job
pub uncounted-all : (job : JobView) (workers : List WorkerAt) (n : ℕ) →
    workers ≡ map worker_of (workers_in job) → length workers ≤ n →
    uncounted (take n workers) ≡ map (λ (who : Worker). empty) (workers_in job)
uncounted-all job workers n is past =
    ap uncounted (take_all n workers past) ∙ ap uncounted is ∙ uncounted-of (workers_in job)

-- there are counts for each worker at first
pub states_first : (setup : SetupView) → length (at_first setup).states
    ≡ length (workers_in setup.job)
states_first setup = simp length-map
