use Rattle.std.proofs.Common.{ap, arith, length, map}
use Rattle.jobs.specs.Job.{job_view}
use Rattle.flow_model.specs.Workers.{workers_in}
use Rattle.flow_model.specs.Topology.{worker_of}
use Rattle.flow_model.proofs.TopologyLemmas.{item_read, workers-next}
use Rattle.flow_model.proofs.tables.workers_of.Goals as goal

pub loop-node-preserved : goal.loop-node-preserved
loop-node-preserved c =
    let item = item_read c.as_slice-def-items.result.now c.args.job.now.nodes c.loop-node.node c.def-item.result c.as_slice-def-items.ensures (omega (arith, c.loop-node-test.true, ap length c.as_slice-def-items.ensures)) c.def-item.is in
    workers-next c.args.job.now.nodes c.loop-node.node c.journal_count.result c.def-item.result c.loop-node.workers c.push_workers.new.workers (map worker_of (workers_in (job_view c.args.job.now))) item c.journal_count.ensures
    c.in_ok-push_workers.ensures c.loop-node.invariant
