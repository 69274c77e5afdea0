use Rattle.std.proofs.Common.{◌≡◌}
use Rattle.flow_model.specs.Requests.{func_after}
use Rattle.flow_model.specs.Setup.{setup_view}
use Rattle.serial_order.proofs.table.func_after.Given as goal

abbrev pub invariant-loop-place : goal.invariant-loop-place
invariant-loop-place l = l.latest ≡ func_after (setup_view l.setup) l.node l.func l.place
