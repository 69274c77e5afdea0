use Rattle.std.proofs.Common.{[]}
use Rattle.jobs.specs.Job.{job_view}
use Rattle.flow_model.specs.Topology.{out_edges}
use Rattle.flow_model.proofs.TopologyLemmas.{pushed-range}
use Rattle.flow_model.proofs.tables.edges_by_node.Goals as goal

pub loop-node-preserved : goal.loop-node-preserved
loop-node-preserved c =
    pushed-range (out_edges (job_view c.args.job.now)) [] c.loop-node.outs c.push.new.self c.loop-node.node c.in_ok-edges_from.field-0 c.loop-node.invariant c.in_ok-push.ensures.ok c.in_ok-edges_from.ensures
