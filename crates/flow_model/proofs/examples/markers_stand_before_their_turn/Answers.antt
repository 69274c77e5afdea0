use Rattle.flow_model.proofs.ExampleLemmas.{joined-finished}
use Rattle.flow_model.proofs.examples.markers_stand_before_their_turn.Goals as goal

pub returns-clause-finished : goal.returns-clause-finished
returns-clause-finished c = joined-finished
