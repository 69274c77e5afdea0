use Rattle.std.proofs.Common.{◌≡◌}
use Rattle.live_control.proofs.HearLemmas.{IsHearing}
use Rattle.live_control.proofs.hearing.hear.Given as goal

abbrev pub invariant-loop-taken : goal.invariant-loop-taken
invariant-loop-taken g l = record {
  hearing : IsHearing l.most l._taken (g.Q.Asks.state l.fn.asks) (g.Q.Asks.state l.asks) l.releases;
  told : l.teller ≡ record l.fn.teller { told = l.releases };
}
