use Rattle.fries_call.proofs.SureLemmas.{sure_calls}
use Rattle.fries_call.proofs.laws.sure_calls_end_well.Goals as goal

pub returns : goal.returns
returns c = sure_calls
