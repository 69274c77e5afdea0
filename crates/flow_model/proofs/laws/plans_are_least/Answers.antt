use Rattle.flow_model.specs.Setup.{setup_view}
use Rattle.flow_model.proofs.LeastLemmas.{plans_least}
use Rattle.flow_model.proofs.laws.plans_are_least.Goals as goal

pub returns : goal.returns
returns c request plan is = plans_least (setup_view c.args.setup.now) c.args.setup.now.planned request plan is
