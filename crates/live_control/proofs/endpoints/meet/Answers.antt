use Rattle.std.proofs.Common.{rules}
use Rattle.live_control.proofs.LoadLemmas.{meets_last}
use Rattle.live_control.proofs.Steps.{load_released, meets-Joins}
use Rattle.live_control.proofs.endpoints.meet.Goals as goal

pub join_seat-requires : goal.join_seat-requires
join_seat-requires c = (search rules, search rules, search rules, search rules, meets-Joins _ _ _ _ c.teller.invariant.3 c.inbox.invariant.3)

pub load-released-requires : goal.load-released-requires
load-released-requires c = (search rules, search rules, load_released _ _ _ (search rules))

pub returns-clause-reached : goal.returns-clause-reached
returns-clause-reached c = meets_last c.teller.inside.seat.me.0 c.inbox.inside.seat.me.0 _ _ _ _ c.join_seat.ensures.2 c.load-released.ensures.2.rises c.inbox.invariant.4
