use Rattle.std.proofs.Common.{◌∙◌, ◌<◌, ◌≤◌, ap, get_or, length, subst, List}
use Rattle.jobs.specs.declared.func.NodeDef.{NodeDef}
use Rattle.audit_stream.proofs.WorkerLemmas.{all_spelled, node_spelled}
use Rattle.audit_stream.proofs.workers.spelled_workers.Goals as goal

pub loop-node-preserved : goal.loop-node-preserved
loop-node-preserved c =
    let loop = c.loop-node in
    let i = loop.node-index in
    let item = c.node-item.result in
    let same = c.as_slice-node-items.ensures in
    node_spelled c.args.job.now.nodes i item loop.workers c.push_node.new.workers (subst (λ (l : List NodeDef). i < length l) same c.loop-node-test.true)
    (c.node-item.is ∙ ap (λ (l : List NodeDef). get_or l i item) same) loop.invariant c.in_ok-push_node.ensures

pub returns : goal.returns
returns c =
    let loop = c.loop-node in
    all_spelled c.args.job.now.nodes loop.node-index loop.workers (subst (λ (l : List NodeDef). length l ≤ loop.node-index) c.as_slice-node-items.ensures c.loop-node-test.false)
    loop.invariant
