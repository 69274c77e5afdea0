use Rattle.operators.proofs.EdgeLemmas.{outputs_differ}
use Rattle.operators.proofs.laws.outputs_are_told_apart.Goals as goal

pub returns : goal.returns
returns c = outputs_differ
