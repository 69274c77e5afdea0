use Rattle.fries_law.proofs.TwoCallsLemmas.{one_run_of_calls}
use Rattle.fries_law.proofs.laws.saved_calls_are_one_run.Goals as goal

pub returns : goal.returns
returns c = one_run_of_calls
