use Rattle.operators.proofs.OutputLemmas.{outputs_bare}
use Rattle.operators.proofs.laws.outputs_are_blind.Goals as goal

pub returns : goal.returns
returns c = outputs_bare
