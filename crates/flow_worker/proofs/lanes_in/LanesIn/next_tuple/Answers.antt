use Rattle.std.proofs.Common.{ℕ, Option, subst}
use Rattle.flow_worker.specs.Masks.{IsFirstFrom}
use Rattle.flow_worker.proofs.HandChoice.{tuple_before, tuple_from}
use Rattle.flow_worker.proofs.lanes_in.LanesIn.next_tuple.Goals as goal

pub returns-in-Some : goal.returns-in-Some
returns-in-Some g c = rw (← c.self.view_is)
    (tuple_from c.self.inside.tuples c.self.inside.lanes.items c.self.invariant.tuples_is c.args.start c.in-Some.place (subst (λ (o : Option ℕ). IsFirstFrom c.self.inside.tuples c.args.start o) c.in-Some.is c.first_from.ensures))

pub returns-in-None : goal.returns-in-None
returns-in-None g c = rw (← c.self.view_is)
    (tuple_before c.self.inside.tuples c.self.inside.lanes.items c.self.invariant.tuples_is c.args.start c.first_from-in-None.result (subst (λ (o : Option ℕ). IsFirstFrom c.self.inside.tuples c.args.start o) c.in-None.is c.first_from.ensures) c.first_from-in-None.ensures)
