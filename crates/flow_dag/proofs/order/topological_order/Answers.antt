use Rattle.std.proofs.Common.{rules, ◌≡◌}
use Rattle.std.specs.Prelude.{insert}
use Rattle.flow_dag.specs.Rows.{RowHas}
use Rattle.flow_dag.proofs.OrderLemmas.{IsTopologicalOrder-insert}
use Rattle.flow_dag.proofs.order.topological_order.Goals as goal

pub loop-node-preserved : goal.loop-node-preserved
loop-node-preserved c =
    let is : c.insert.new.self.items ≡ insert c.loop-node.order.items c.first_in-place.result c.loop-node.node = search rules in
    let place = rw c.deref.ensures.value at c.first_in-place.ensures in
    rw is
    (IsTopologicalOrder-insert (RowHas c.args.below.now) c.loop-node.node c.first_in-place.result c.loop-node.order.items
    c.requires.transitive c.requires.acyclic c.loop-node.invariant place.within place.before place.found)
