use Rattle.flow_model.proofs.SplitLemmas.{exchanged-no_run}
use Rattle.flow_model.proofs.examples.an_exchanged_item_is_no_run.Goals as goal

pub returns : goal.returns
returns c = exchanged-no_run
