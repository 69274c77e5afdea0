use Rattle.flow_model.proofs.ExampleLemmas.{four-run}
use Rattle.flow_model.proofs.examples.four_payments_are_a_run.Goals as goal

pub returns-clause-run : goal.returns-clause-run
returns-clause-run c = four-run
