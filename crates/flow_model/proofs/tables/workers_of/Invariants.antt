use Rattle.std.proofs.Common.{◌≡◌, ◌++◌, drop, map}
use Rattle.jobs.specs.Job.{job_view}
use Rattle.flow_model.specs.Workers.{workers_in, workers_from}
use Rattle.flow_model.specs.Topology.{worker_of}
use Rattle.flow_model.proofs.tables.workers_of.Given as goal

abbrev pub invariant-loop-node : goal.invariant-loop-node
invariant-loop-node l = l.workers ++ map worker_of (workers_from 0 l.node (drop l.node l.job.nodes)) ≡ map worker_of (workers_in (job_view l.job))
