use Rattle.std.proofs.Common.{arith}
use Rattle.audit_restore.proofs.StandingLemmas.{popped, popped_item}
use Rattle.audit_restore.proofs.standing.Standing.take.Goals as goal

pub returns-clause-item : goal.returns-clause-item
returns-clause-item c =
    popped_item (λ queue. queue.items) c.self.inside.lanes.items c.args.self.now c.args.lane c.index_mut.result.now c.pop_front.new.self c.pop_front.result c.self.view_is
    (omega (arith, c.len.ensures, c.if-lane-len.false)) c.index_mut.ensures.value c.pop_front.ensures.items c.pop_front.ensures.rest

pub returns-clause-left : goal.returns-clause-left
returns-clause-left c =
    popped (λ queue. queue.items) c.self.inside.lanes.items c.args.self.now c.args.lane c.index_mut.result.now c.pop_front.new.self c.self.view_is
    (omega (arith, c.len.ensures, c.if-lane-len.false)) c.index_mut.ensures.value c.pop_front.ensures.rest
