use Rattle.std.proofs.Common.{◌≡◌, ◌++◌, take}
use Rattle.std.specs.List.{flat_map}
use Rattle.jobs.specs.Job.{job_view}
use Rattle.flow_model.specs.Lanes.{senders}
use Rattle.flow_model.proofs.LaneLemmas.{lanes_from}
use Rattle.flow_model.proofs.tables.push_edge.Given as goal

abbrev pub invariant-loop-place : goal.invariant-loop-place
invariant-loop-place l =
    l.all ≡ l.fn.all ++ flat_map (lanes_from (job_view l.job) l.number l.edge) (take l.place (senders (job_view l.job) l.edge.from))
