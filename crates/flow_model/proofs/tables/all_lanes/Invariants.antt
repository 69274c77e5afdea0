use Rattle.std.proofs.Common.{◌≡◌, take}
use Rattle.std.specs.List.{enumerate_from, flat_map}
use Rattle.jobs.specs.Job.{job_view}
use Rattle.flow_model.specs.Topology.{lanes_along}
use Rattle.flow_model.proofs.tables.all_lanes.Given as goal

abbrev pub invariant-loop-number : goal.invariant-loop-number
invariant-loop-number l = l.all ≡ flat_map (lanes_along (job_view l.job)) (take l.number (enumerate_from 0 (job_view l.job).edges))
