use Rattle.std.proofs.Common.{◌≡◌, ◌<◌, ℕ, false}
use Rattle.flow_model.specs.Setup.{setup_view}
use Rattle.flow_model.specs.Workers.{nth_worker}
use Rattle.savepoint_file.specs.Steps.{takes_key}
use Rattle.savepoint_file.proofs.placed.worker_with.Given as goal

abbrev pub invariant-loop-worker : goal.invariant-loop-worker
invariant-loop-worker l =
    (k : ℕ) → k < l.worker → takes_key (setup_view l.setup).job l.name l.place l.key (nth_worker (setup_view l.setup).job k) ≡ false
