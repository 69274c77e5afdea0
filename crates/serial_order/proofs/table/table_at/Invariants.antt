use Rattle.std.proofs.Common.{◌≡◌, ◌++◌, drop}
use Rattle.flow_model.specs.Setup.{setup_view}
use Rattle.serial_order.proofs.TableLemmas.{funcs_from}
use Rattle.serial_order.proofs.table.table_at.Given as goal

abbrev pub invariant-loop-node : goal.invariant-loop-node
invariant-loop-node l =
    l.table ++ funcs_from (setup_view l.setup) l.k l.node (drop l.node l.setup.job.nodes) ≡ funcs_from (setup_view l.setup) l.k 0 l.setup.job.nodes
