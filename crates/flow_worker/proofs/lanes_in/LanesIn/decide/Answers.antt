use Rattle.std.proofs.Common.{◌≡◌, ◌∙◌, sym, subst, List, None}
use Rattle.std.specs.Option.{option_copied}
use Rattle.marker_align.specs.Decision.{next_tuple, turn}
use Rattle.flow_worker.specs.Endpoints.{LaneInIs}
use Rattle.flow_worker.proofs.Deciding.{all_hands}
use Rattle.flow_worker.proofs.HandChoice.{some_open, waits}
use Rattle.flow_worker.proofs.lanes_in.LanesIn.decide.Goals as goal

pub returns-in-None : goal.returns-in-None
returns-in-None g c =
    let ins : List LaneInIs = c.self.inside.lanes.items in
    let none : turn (all_hands ins) (option_copied c.args.due) c.args.posted ≡ None = subst (λ (xs : List LaneInIs). turn (all_hands xs) (option_copied c.args.due) c.args.posted ≡ None) (sym c.self.view_is) (c.may_turn.ensures c.if-may_turn.false) in
    let next : None ≡ next_tuple c.args.start (all_hands ins) = subst (λ (xs : List LaneInIs). None ≡ next_tuple c.args.start (all_hands xs)) (sym c.self.view_is) (sym c.in-None.is ∙ c.next_tuple.ensures) in
    rw (← c.self.view_is) (waits ins (option_copied c.args.due) c.args.posted c.args.start (some_open c.self.inside.empty c.self.inside.tuples c.self.inside.newest ins c.self.invariant c.if-self-eq0.false) none next)
