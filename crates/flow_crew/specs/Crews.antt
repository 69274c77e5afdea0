-- The workers of a setup.
use Rattle.std.specs.Prelude.{◌≡◌, ℕ, List, length, Some, slice_get}
use Rattle.flow_model.specs.Begin.{Begin}
use Rattle.flow_model.specs.SetupView.{SetupView}
use Rattle.flow_model.specs.Workers.{workers_in}
use Rattle.flow_worker.specs.Worker.{IsWorker, WorkerIs}

-- all workers of a setup, in the order of their numbers, each with the law of a worker from a
-- beginning on
pub record IsCrew (setup : SetupView) (begin : Begin) (workers : List WorkerIs) : Type 0 where
  pub many : length workers ≡ length (workers_in setup.job)
  pub number :
      (w : ℕ) (worker : WorkerIs) → slice_get workers w ≡ Some worker → worker.number ≡ w
  pub law :
      (w : ℕ) (worker : WorkerIs) → slice_get workers w ≡ Some worker →
      IsWorker setup begin worker
