use Rattle.std.proofs.Common.{◌≤◌, inl, refl, subst}
use Rattle.live_control.proofs.LoadLemmas.{last_shows}
use Rattle.live_control.proofs.live_feeder.released.Goals as goal

pub returns-then-last-requests-clause-hears : goal.returns-then-last-requests-clause-hears
returns-then-last-requests-clause-hears c =
    inl (refl, c.if-last-requests.true, λ r some le. last_shows 0 c.args.inbox.now.loads r some (subst (λ n. r ≤ n) c.last_heard-last.ensures le))
