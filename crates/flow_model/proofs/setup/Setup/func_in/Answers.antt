use Rattle.std.proofs.Common.{sym, ap, ◌∙◌}
use Rattle.flow_model.specs.InForce.{func_in}
use Rattle.flow_model.specs.Setup.{setup_view}
use Rattle.flow_model.proofs.setup.Setup.func_in.Goals as goal

pub returns-in-Changed : goal.returns-in-Changed
returns-in-Changed c = c.changed_func.ensures c.args.node ∙ ap (func_in (setup_view c.args.self.now) c.args.node) (sym c.in-Changed.is)
