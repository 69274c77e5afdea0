use Rattle.flow_model.specs.Setup.{setup_view}
use Rattle.coordinator.proofs.Waiting.{law_unloads}
use Rattle.coordinator.proofs.Living.{first_after, heard_after, is_live_turn}
use Rattle.coordinator.proofs.state.FeederState.live_turn.Goals as goal

pub step-requires-clause-law : goal.step-requires-clause-law
step-requires-clause-law g c = (c.requires.law.0, _, law_unloads (setup_view c.args.setup.now) c.requires.law.0 c.args.rows.now _ c.args.self.now c.requires.law.1 c.requires.law.2.feeding)

pub returns-clause-first : goal.returns-clause-first
returns-clause-first g c = first_after (setup_view c.args.setup.now) c.requires.law.0 c.args.rows.now c.args.released c.args.self.now c.step.new.self c.step.result c.requires.law.1 c.requires.first c.requires.law.2 c.step.ensures

pub returns-clause-turn : goal.returns-clause-turn
returns-clause-turn g c = λ lo ln hears. is_live_turn (setup_view c.args.setup.now) c.args.rows.now c.args.released c.args.self.now c.step.new.self c.step.result lo ln c.requires.first c.step.ensures hears

pub returns-clause-heard : goal.returns-clause-heard
returns-clause-heard g c = λ begin lo ln hears law heard. heard_after (setup_view c.args.setup.now) begin c.args.rows.now c.args.released c.args.self.now c.step.new.self c.step.result lo ln c.requires.first c.step.ensures hears law heard
