use Rattle.std.proofs.Common.{◌≡◌, map}
use Rattle.std.specs.List.{range_with_len}
use Rattle.jobs.specs.Job.{job_view}
use Rattle.flow_model.specs.Topology.{out_edges}
use Rattle.flow_model.proofs.tables.edges_by_node.Given as goal

abbrev pub invariant-loop-node : goal.invariant-loop-node
invariant-loop-node l = l.outs ≡ map (out_edges (job_view l.job)) (range_with_len 0 l.node)
