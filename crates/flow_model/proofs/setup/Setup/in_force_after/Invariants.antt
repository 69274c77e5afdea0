use Rattle.std.proofs.Common.{◌≡◌, Some}
use Rattle.jobs.specs.declared.func.Func.{Func}
use Rattle.flow_model.specs.InForce.{func_in}
use Rattle.flow_model.specs.Requests.{func_after}
use Rattle.flow_model.specs.Setup.{setup_view}
use Rattle.flow_model.specs.declared.in_force.InForce.TheVariants.{Own}
use Rattle.flow_model.proofs.setup.Setup.in_force_after.Given as goal

abbrev pub invariant-loop-before : goal.invariant-loop-before
invariant-loop-before l =
    (func : Func) → func_in (setup_view l.self) l.node Own ≡ Some func →
    func_in (setup_view l.self) l.node l.at ≡ Some (func_after (setup_view l.self) l.node func l.before)
