use Rattle.std.proofs.Common.{◌≡◌, map}
use Rattle.std.specs.List.{range_with_len}
use Rattle.jobs.specs.Job.{job_view}
use Rattle.operators.specs.Ports.{out_ports}
use Rattle.flow_model.proofs.tables.ports_by_node.Given as goal

abbrev pub invariant-loop-node : goal.invariant-loop-node
invariant-loop-node l = l.all ≡ map (out_ports (job_view l.job).edges) (range_with_len 0 l.node)
