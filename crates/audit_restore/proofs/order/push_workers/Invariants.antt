use Rattle.std.proofs.Common.{◌≡◌, ◌++◌}
use Rattle.jobs.specs.Job.{job_view}
use Rattle.audit_restore.specs.Restored.{numbers_at}
use Rattle.audit_restore.proofs.order.push_workers.Given as goal

abbrev pub invariant-loop-worker : goal.invariant-loop-worker
invariant-loop-worker l = l.workers ≡ l.fn.workers ++ numbers_at (job_view l.setup.job) l.node l.worker
