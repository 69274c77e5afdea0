use Rattle.flow_model.proofs.ExampleLemmas.{missed-no_run}
use Rattle.flow_model.proofs.examples.a_missed_payment_is_no_run.Goals as goal

pub returns : goal.returns
returns c = missed-no_run
