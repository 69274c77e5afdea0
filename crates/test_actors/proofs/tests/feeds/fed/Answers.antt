use Rattle.flow_model.specs.Begin.{at_first}
use Rattle.flow_model.specs.Setup.{setup_view}
use Rattle.test_actors.proofs.tests.feeds.fed.Goals as goal

pub feed_of-requires-clause-law : goal.feed_of-requires-clause-law
feed_of-requires-clause-law g c κs within = (at_first (setup_view c.args.setup.now), c.in_ok-feeder-2.ensures.law c.args.rows.now)
