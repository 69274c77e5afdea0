use Rattle.std.proofs.Common.{◌<◌, arith}
use Rattle.std.proofs.lemmas.Bool.{eqb-false}
use Rattle.std.proofs.lemmas.Bool.Decides.{nat_tests}
use Rattle.flow_worker.proofs.HandChoice.{head_waits, lanes_wait}
use Rattle.flow_worker.proofs.lanes_in.LanesIn.may_turn.Goals as goal

pub returns-else-posted : goal.returns-else-posted
returns-else-posted g c e =
    let l : c.self.inside.newest < c.in-Some.due.now.request = grind (arith, nat_tests) in
    rw (← c.self.view_is, c.in-Some.is) (head_waits c.in-Some.due.now c.self.inside.newest c.self.inside.lanes.items c.args.posted c.if-due.true c.if-posted.false l c.self.invariant.newest_is)

pub returns-else-due : goal.returns-else-due
returns-else-due g c e =
    rw (← c.self.view_is, c.in-Some.is) (lanes_wait c.in-Some.due.now c.self.inside.empty c.self.inside.tuples c.self.inside.newest c.self.inside.lanes.items c.args.posted c.if-due.false c.self.invariant (eqb-false _ 0 e))
