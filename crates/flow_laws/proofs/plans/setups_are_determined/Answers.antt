use Rattle.flow_laws.proofs.SetupLemmas.{one_setup}
use Rattle.flow_laws.proofs.plans.setups_are_determined.Goals as goal

pub returns : goal.returns
returns c = one_setup
