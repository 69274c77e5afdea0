use Rattle.std.proofs.Common.{◌∙◌, None, Some, ap, sym}
use Rattle.std.specs.Prelude.{option_copied}
use Rattle.flow_model.specs.Setup.{setup_view}
use Rattle.serial_order.proofs.TableLemmas.{func-next}
use Rattle.serial_order.proofs.table.func_after.Goals as goal
use Rattle.serial_order.proofs.table.func_after.Goals.{in-Some, in_default}

pub loop-place-preserved : goal.loop-place-preserved
loop-place-preserved c =
    let setup = setup_view c.args.setup.now in
    elim c.match-change_of.branch [
      | in-Some w ↦
          rw w.latest-is
          (func-next setup c.args.node c.args.func.now c.loop-place.place (Some w.in-Some.change.now) c.loop-place.latest.now (ap option_copied (sym w.in-Some.is) ∙ c.change_of.ensures) c.loop-place.invariant)
      | in_default w ↦
          rw w.latest-is
          (func-next setup c.args.node c.args.func.now c.loop-place.place None c.loop-place.latest.now (ap option_copied (sym w.in_default.is) ∙ c.change_of.ensures) c.loop-place.invariant)
    ]
