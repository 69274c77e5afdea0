use Rattle.std.proofs.Common.{ap}
use Rattle.flow_runner.specs.declared.rule.Tally.{Tally}
use Rattle.flow_runner.proofs.Bringing.{has, agreed, given}
use Rattle.flow_runner.proofs.steps.put_back.Goals as goal

pub give-requires-clause-has : goal.give-requires-clause-has
give-requires-clause-has g c κs within = has _ _ _ _ c.requires.listed

pub give-requires-clause-charter : goal.give-requires-clause-charter
give-requires-clause-charter g c κs within = agreed _ _ _ _ c.requires.listed

pub returns-in-Ok-clause-listed : goal.returns-in-Ok-clause-listed
returns-in-Ok-clause-listed g c = given _ _ _ _ c.args.runner (ap (λ (h : Tally). h.list) c.in-Ok.ensures.ok) c.requires.listed
