use Rattle.flow_model.specs.Begin.{Begin}
use Rattle.flow_model.specs.Setup.{setup_view}
use Rattle.coordinator.specs.Feeding.{IsFeeder}
use Rattle.test_actors.proofs.tests.feeds.feed_of.Given as goal

-- the feeder has its law
abbrev pub invariant-loop-turn : goal.invariant-loop-turn
invariant-loop-turn g l = (begin : Begin) × IsFeeder g.F.Feeding.LIVE (setup_view l.setup) begin l.rows (g.F.Feeding.feeder l.feeder)
