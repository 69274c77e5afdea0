use Rattle.std.proofs.Common.{◌∙◌, sym}
use Rattle.jobs.specs.Job.{job_view}
use Rattle.flow_model.proofs.TopologyLemmas.{item_read, length-senders}
use Rattle.flow_model.proofs.tables.sender_count.Goals as goal

pub returns-else-is_source : goal.returns-else-is_source
returns-else-is_source c =
    let item = item_read c.as_slice.result.now c.args.job.now.nodes c.args.node c.index-as_slice-node.result c.as_slice.ensures c.requires c.index-as_slice-node.is in
    c.journal_count.ensures ∙ sym (length-senders (job_view c.args.job.now) c.args.node c.index-as_slice-node.result item (sym c.if-is_source.ensures))
