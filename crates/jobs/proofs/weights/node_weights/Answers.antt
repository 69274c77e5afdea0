use Rattle.std.proofs.Common.{◌<◌, ◌≤◌, arith, length, slice_index}
use Rattle.std.proofs.lemmas.List.{length-set}
use Rattle.jobs.proofs.SettleLemmas.{each-in_order, weigh-next}
use Rattle.jobs.proofs.weights.node_weights.Goals as goal

pub loop-i-preserved : goal.loop-i-preserved
loop-i-preserved c =
    let dag = c.args.dag.now in
    let inv = c.loop-i.invariant in
    let less : c.loop-i.i < dag.nodes = omega (arith, c.loop-i-test.true, c.nodes-i-end.ensures.nodes) in
    let room : dag.nodes ≤ length c.loop-i.weights = omega (arith, inv.0, dag.lawful.size) in
    rw (c.weighed.ensures, c.all_edges-edges.ensures.edges) (simp length-set inv.0, weigh-next c.args.nodes.now dag.edges dag.nodes dag.order dag.lawful.ordered dag.lawful.inside c.loop-i.weights c.loop-i.i c.order-v.result less room c.order-v.ensures inv.1)

pub returns : goal.returns
returns c v below =
    let dag = c.args.dag.now in
    let done = each-in_order c.args.nodes.now dag.edges dag.nodes dag.order dag.lawful.ordered dag.lawful.inside (slice_index c.loop-i.weights)
    (λ k lt. c.loop-i.invariant.1 k (omega (arith, lt, c.loop-i-test.false, c.nodes-i-end.ensures.nodes))) v (omega (arith, below, c.requires)) in
    rw c.requires at done
