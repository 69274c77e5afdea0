use Rattle.std.proofs.Common.{◌+◌, arith}
use Rattle.flow_model.proofs.TopologyLemmas.{item_in_front}
use Rattle.flow_model.proofs.SizeLemmas.{worker_count-more, worker_count-take}
use Rattle.flow_model.proofs.tables.first_worker.Goals as goal

pub overflow_add-first : goal.overflow_add-first
overflow_add-first c =
    let nodes = c.args.job.now.nodes in
    let i = c.loop-def.def-index in
    let item = item_in_front c.as_slice.result.now nodes c.args.node i c.def-item.result c.as_slice.ensures c.loop-def-test.true c.def-item.is in
    omega (arith, worker_count-more nodes i c.def-item.result item, worker_count-take nodes (i + 1), c.args.job.now.lawful.limits.all_workers, c.loop-def.invariant, c.journal_count-first.ensures)

pub loop-def-preserved : goal.loop-def-preserved
loop-def-preserved c =
    let nodes = c.args.job.now.nodes in
    let i = c.loop-def.def-index in
    let item = item_in_front c.as_slice.result.now nodes c.args.node i c.def-item.result c.as_slice.ensures c.loop-def-test.true c.def-item.is in
    omega (arith, worker_count-more nodes i c.def-item.result item, c.loop-def.invariant, c.journal_count-first.ensures)
