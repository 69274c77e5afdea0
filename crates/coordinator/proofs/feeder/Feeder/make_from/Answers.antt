use Rattle.coordinator.proofs.feeder.Feeder.make_from.Goals as goal

pub returns-clause-law : goal.returns-clause-law
returns-clause-law g c = λ begin rows row turned. c.in_ok-state.ensures.law begin rows row turned
