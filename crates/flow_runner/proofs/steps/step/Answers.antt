use Rattle.flow_runner.proofs.Fixed.{same_brings}
use Rattle.flow_runner.proofs.steps.step.Goals as goal

pub returns-clause-listed : goal.returns-clause-listed
returns-clause-listed g c = same_brings _ _ _ _ c.turn_held-rest.ensures c.look-looked.ensures.listed
