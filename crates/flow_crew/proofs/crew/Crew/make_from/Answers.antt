use Rattle.std.proofs.Common.{List, map, subst, sym}
use Rattle.flow_crew.specs.Sides.{AreMatched, HoldAtMost, SideIs}
use Rattle.flow_crew.proofs.crew.Crew.make_from.Goals as goal

pub returns-clause-matched : goal.returns-clause-matched
returns-clause-matched g c =
    let fed = map g.L.Tx.Tx.state c.in_ok-workers.field-0.feeder.items in
    subst (λ (sides : List SideIs). AreMatched sides fed) (sym c.in_ok-workers-2.ensures.sides) c.in_ok-workers.ensures.matched

pub returns-clause-hold : goal.returns-clause-hold
returns-clause-hold g c = subst (HoldAtMost c.args.cap) (sym c.in_ok-workers-2.ensures.sides) c.in_ok-workers.ensures.hold
