use Rattle.fries_steps.proofs.OneRunLemmas.{same_setups}
use Rattle.fries_steps.proofs.laws.same_requests_have_one_setup.Goals as goal

pub returns : goal.returns
returns c = same_setups
