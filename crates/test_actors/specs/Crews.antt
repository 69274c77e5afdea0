-- Workers that have their law.
use Rattle.std.specs.Prelude.{◌≡◌, ℕ, List, Some, slice_get}
use Rattle.flow_model.specs.Begin.{at_first}
use Rattle.flow_model.specs.SetupView.{SetupView}
use Rattle.flow_worker.specs.Worker.{IsWorker, WorkerIs}

-- each of these has the law of a worker from the beginning of a run on
abbrev pub AreLawfulWorkers : SetupView → List WorkerIs → Type 0
AreLawfulWorkers setup workers =
    (w : ℕ) (worker : WorkerIs) → slice_get workers w ≡ Some worker →
    IsWorker setup (at_first setup) worker
