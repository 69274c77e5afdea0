use Rattle.flow_dag.specs.Rows.{RowHas}
use Rattle.flow_dag.specs.Order.{IsTopologicalOrder}
use Rattle.flow_dag.proofs.order.topological_order.Given as goal

abbrev pub invariant-loop-node : goal.invariant-loop-node
invariant-loop-node l = IsTopologicalOrder (RowHas l.fn.below) l.node l.order.items
