use Rattle.operators.proofs.PortLemmas.{outputs_few}
use Rattle.operators.proofs.laws.outputs_are_few.Goals as goal

pub returns : goal.returns
returns c = outputs_few
