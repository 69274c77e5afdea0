use Rattle.flow_model.specs.Setup.{setup_view}
use Rattle.test_actors.specs.Crews.{AreLawfulWorkers}
use Rattle.test_actors.proofs.tests.by_hand.first_wrong.Given as goal

abbrev pub invariant-loop-place : goal.invariant-loop-place
invariant-loop-place g l = AreLawfulWorkers (setup_view l.setup) l.driven.workers.items
