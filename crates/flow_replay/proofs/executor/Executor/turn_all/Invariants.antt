use Rattle.std.proofs.Common.{◌≡◌, ◌<◌, ◌≤◌, ℕ, length}
use Rattle.jobs.specs.Job.{job_view}
use Rattle.flow_model.specs.Setup.{setup_view}
use Rattle.flow_model.specs.Workers.{nth_worker}
use Rattle.flow_replay.specs.inner.Executor.{SameBesideRuns}
use Rattle.flow_replay.specs.inner.Runs.{IsGain, turn_block, run_at}
use Rattle.flow_replay.proofs.executor.Executor.turn_all.Given as goal

abbrev pub invariant-loop-worker : goal.invariant-loop-worker
invariant-loop-worker l = record {
  same : SameBesideRuns l.fn.self l.self;
  long : length l.self.runs.items ≡ length l.fn.self.runs.items;
  done :
      (w : ℕ) → w < l.worker →
      IsGain (setup_view l.fn.self.setup.now) (nth_worker (job_view l.fn.self.setup.now.job) w)
      (turn_block (setup_view l.fn.self.setup.now) l.request w) (run_at l.fn.self.runs.items w) (run_at
      l.self.runs.items w);
  left : (w : ℕ) → l.worker ≤ w → run_at l.self.runs.items w ≡ run_at l.fn.self.runs.items w;
}
