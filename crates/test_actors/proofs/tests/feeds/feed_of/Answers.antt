use Rattle.test_actors.proofs.tests.feeds.feed_of.Goals as goal

pub loop-turn-preserved : goal.loop-turn-preserved
loop-turn-preserved g c = (c.loop-turn.invariant.0, c.turn.ensures.turn.law c.loop-turn.invariant.0 c.loop-turn.invariant.1)
