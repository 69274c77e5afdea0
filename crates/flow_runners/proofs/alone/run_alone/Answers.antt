use Rattle.std.proofs.Common.{◌∙◌}
use Rattle.flow_runners.proofs.Uniting.{back}
use Rattle.flow_runners.proofs.alone.run_alone.Goals as goal

pub returns-clause-back : goal.returns-clause-back
returns-clause-back g c =
    let drained = c.in_ok-drain.ensures in
    back g.C.Charter.endpoints _ _ (c.in_ok-rounds.ensures.fixed ∙ c.in_ok-feed_out.ensures.fixed) drained.once drained.agree c.in_ok-rounds.ensures.done
