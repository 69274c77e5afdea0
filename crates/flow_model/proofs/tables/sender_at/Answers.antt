use Rattle.std.proofs.Common.{◌∙◌, arith, sym}
use Rattle.jobs.specs.Job.{job_view}
use Rattle.flow_model.proofs.SizeLemmas.{first_worker-workers}
use Rattle.flow_model.proofs.TopologyLemmas.{feeder_made, item_read, length-senders, sender_made}
use Rattle.flow_model.proofs.tables.sender_at.Goals as goal

pub overflow_add-result : goal.overflow_add-result
overflow_add-result c =
    let job = job_view c.args.job.now in
    let item = item_read c.as_slice.result.now c.args.job.now.nodes c.args.node c.index-as_slice-node.result c.as_slice.ensures c.requires.node c.index-as_slice-node.is in
    let long = length-senders job c.args.node c.index-as_slice-node.result item (sym c.is_source.ensures ∙ c.if-is_source.false) in
    omega (arith, long, c.requires.place, first_worker-workers job c.args.node c.index-as_slice-node.result c.args.job.now.lawful item, c.first_worker.ensures)

pub returns-then-is_source : goal.returns-then-is_source
returns-then-is_source c =
    let item = item_read c.as_slice.result.now c.args.job.now.nodes c.args.node c.index-as_slice-node.result c.as_slice.ensures c.requires.node c.index-as_slice-node.is in
    feeder_made (job_view c.args.job.now) c.args.node c.args.place c.index-as_slice-node.result item (sym c.if-is_source.ensures) c.requires.place

pub returns-else-is_source : goal.returns-else-is_source
returns-else-is_source c =
    let item = item_read c.as_slice.result.now c.args.job.now.nodes c.args.node c.index-as_slice-node.result c.as_slice.ensures c.requires.node c.index-as_slice-node.is in
    sender_made (job_view c.args.job.now) c.args.node c.args.place c.first_worker.result c.index-as_slice-node.result item (sym c.if-is_source.ensures) c.requires.place c.first_worker.ensures
