use Rattle.operators.proofs.OutputLemmas.{outputs_made}
use Rattle.operators.proofs.laws.outputs_are_made_of_their_tuple.Goals as goal

pub returns : goal.returns
returns c = outputs_made
