use Rattle.std.proofs.Common.{List, sym, subst, arith}
use Rattle.flow_worker.specs.Endpoints.{Flushed, LaneOutIs}
use Rattle.flow_worker.specs.Pairs.{EachPair}
use Rattle.flow_worker.proofs.HandMasks.{one_pair}
use Rattle.flow_worker.proofs.lanes_out.LanesOut.flush.Goals as goal

pub returns-then-len-eq1-clause-flushed : goal.returns-then-len-eq1-clause-flushed
returns-then-len-eq1-clause-flushed g c =
    let f = c.flush_at.ensures.flushed in
    let a = c.len.ensures in
    let b = c.if-len-eq1.true in
    subst (λ (xs : List LaneOutIs). EachPair Flushed c.args.self.now xs) (sym f.set_is) (one_pair Flushed c.args.self.now f.at (omega (arith, a, b)) f.flushed)
