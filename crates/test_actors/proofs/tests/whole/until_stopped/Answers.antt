use Rattle.std.proofs.Common.{◌∙◌}
use Rattle.flow_model.specs.Begin.{at_first}
use Rattle.flow_model.specs.Setup.{setup_view}
use Rattle.test_actors.proofs.tests.whole.until_stopped.Goals as goal

pub returns-in-Done-clause-law : goal.returns-in-Done-clause-law
returns-in-Done-clause-law g c =
    c.turn.ensures.turn.law (at_first (setup_view c.args.setup.now)) c.loop-turn.invariant.law

pub loop-turn-preserved : goal.loop-turn-preserved
loop-turn-preserved g c = record {
  law = c.turn.ensures.turn.law (at_first (setup_view c.args.setup.now)) c.loop-turn.invariant.law;
  endpoints = c.turn.ensures.turn.endpoints ∙ c.loop-turn.invariant.endpoints;
}
