use Rattle.std.proofs.Common.{refl}
use Rattle.flow_model.specs.Begin.{at_first}
use Rattle.flow_model.specs.Setup.{setup_view}
use Rattle.coordinator.proofs.feeder.FeederFeeding.make.Goals as goal

pub returns-clause-law : goal.returns-clause-law
returns-clause-law g c = λ rows. c.in_ok-state.ensures.law (at_first (setup_view c.args.setup.now)) rows refl refl
