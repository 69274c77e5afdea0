use Rattle.flow_model.proofs.SplitLemmas.{split-run}
use Rattle.flow_model.proofs.examples.two_ways_are_a_run.Goals as goal

pub returns-clause-run : goal.returns-clause-run
returns-clause-run c = split-run
