use Rattle.operators.proofs.EdgeLemmas.{outputs_leave}
use Rattle.operators.proofs.laws.outputs_leave_by_edges.Goals as goal

pub returns : goal.returns
returns c = outputs_leave
