use Rattle.std.proofs.Common.{◌∙◌}
use Rattle.flow_model.specs.Begin.{at_first}
use Rattle.flow_model.specs.Setup.{setup_view}
use Rattle.test_actors.proofs.Whole.{same_lanes}
use Rattle.test_actors.proofs.tests.whole.until_done.Goals as goal

pub returns-in-Done-clause-law : goal.returns-in-Done-clause-law
returns-in-Done-clause-law g c = c.turn.ensures.law (at_first (setup_view c.args.setup.now)) c.loop-turn.invariant.law

pub returns-in-Done-clause-number : goal.returns-in-Done-clause-number
returns-in-Done-clause-number g c = c.turn.ensures.endpoints.number ∙ c.loop-turn.invariant.number

pub returns-in-Done-clause-lanes : goal.returns-in-Done-clause-lanes
returns-in-Done-clause-lanes g c = same_lanes c.loop-turn.worker c.turn.new.self c.turn.ensures.endpoints ∙ c.loop-turn.invariant.lanes

pub loop-turn-preserved : goal.loop-turn-preserved
loop-turn-preserved g c = record {
  law = c.turn.ensures.law (at_first (setup_view c.args.setup.now)) c.loop-turn.invariant.law;
  number = c.turn.ensures.endpoints.number ∙ c.loop-turn.invariant.number;
  lanes = same_lanes c.loop-turn.worker c.turn.new.self c.turn.ensures.endpoints ∙ c.loop-turn.invariant.lanes;
}
