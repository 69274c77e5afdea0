use Rattle.std.proofs.Common.{[]}
use Rattle.jobs.specs.Job.{job_view}
use Rattle.operators.specs.Ports.{out_ports}
use Rattle.flow_model.proofs.TopologyLemmas.{pushed-range}
use Rattle.flow_model.proofs.tables.ports_by_node.Goals as goal

pub loop-node-preserved : goal.loop-node-preserved
loop-node-preserved c =
    pushed-range (out_ports (job_view c.args.job.now).edges) [] c.loop-node.all c.push.new.self c.loop-node.node c.in_ok-out_ports.field-0 c.loop-node.invariant c.in_ok-push.ensures.ok c.in_ok-out_ports.ensures
