use Rattle.std.proofs.Common.{◌≡◌, ◌≤◌, ◌*◌, drop}
use Rattle.jobs.specs.Job.{job_view}
use Rattle.flow_worker.specs.Steps.{place_from}
use Rattle.flow_worker.proofs.outputs.place_of.Given as goal

abbrev pub invariant-loop-edge : goal.invariant-loop-edge
invariant-loop-edge l = record {
  place : place_from (job_view l.job) l.first (drop l.edge-index l.edges) l.port l.tuple ≡ place_from (job_view l.job) 0 l.edges l.port l.tuple;
  small : l.first ≤ l.edge-index * 4294967295;
}
