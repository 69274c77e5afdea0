use Rattle.std.proofs.Common.{◌≡◌, map, take}
use Rattle.std.specs.List.{enumerate_from}
use Rattle.jobs.specs.Job.{job_view}
use Rattle.flow_model.specs.Topology.{out_edge, first_lane}
use Rattle.flow_model.proofs.tables.all_out_edges.Given as goal

abbrev pub invariant-loop-number : goal.invariant-loop-number
invariant-loop-number l = record {
  all : l.all ≡ map (out_edge (job_view l.job)) (take l.number (enumerate_from 0 (job_view l.job).edges));
  first_lane : l.first_lane ≡ first_lane (job_view l.job) l.number;
}
