use Rattle.std.proofs.Common.{refl}
use Rattle.live_control.proofs.LoadLemmas.{nothing_heard}
use Rattle.live_control.proofs.live_feeder.LiveFeederFeeding.make.Goals as goal

pub returns-clause-law : goal.returns-clause-law
returns-clause-law g c = λ rows. (c.in_ok-state.ensures.live refl refl).1 c.args.seed.loads rows

pub returns-clause-kept : goal.returns-clause-kept
returns-clause-kept g c = (refl, nothing_heard c.args.seed.loads c.in_ok-state.state.feeds c.in_ok-state.ensures.fresh)
