use Rattle.std.proofs.Common.{◌∙◌, sym}
use Rattle.jobs.specs.Job.{job_view}
use Rattle.flow_model.proofs.WorkerListLemmas.{length-workers_at_node}
use Rattle.flow_model.proofs.TopologyLemmas.{item_read}
use Rattle.flow_model.proofs.tables.receiver_count.Goals as goal

pub returns : goal.returns
returns c =
    let item = item_read c.as_slice.result.now c.args.job.now.nodes c.args.node c.index-as_slice-node.result c.as_slice.ensures c.requires c.index-as_slice-node.is in
    c.journal_count.ensures ∙ sym (length-workers_at_node (job_view c.args.job.now) c.args.node c.index-as_slice-node.result item)
