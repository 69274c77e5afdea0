use Rattle.std.proofs.Common.{◌≡◌, length, take}
use Rattle.std.specs.List.{flat_map}
use Rattle.jobs.specs.Job.{job_view}
use Rattle.flow_model.specs.Workers.{workers_in}
use Rattle.audit_restore.specs.Restored.{numbers_at}
use Rattle.audit_restore.proofs.order.workers_in_order.Given as goal

abbrev pub invariant-loop-place : goal.invariant-loop-place
invariant-loop-place l =
    l.workers ≡ flat_map (λ node. numbers_at (job_view l.setup.job) node (length (workers_in (job_view l.setup.job)))) (take l.place l.setup.job.dag.order)
