use Rattle.std.proofs.Common.{◌≡◌}
use Rattle.std.specs.Prelude.{replicate}
use Rattle.flow_replay.specs.inner.Runs.{empty_run}
use Rattle.flow_replay.proofs.executor.empty_runs.Given as goal

abbrev pub invariant-loop-worker : goal.invariant-loop-worker
invariant-loop-worker l = l.runs.items ≡ replicate l._worker empty_run
