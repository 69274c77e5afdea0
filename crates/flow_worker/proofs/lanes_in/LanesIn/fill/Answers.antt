use Rattle.std.proofs.Common.{List, sym, subst, arith}
use Rattle.flow_worker.specs.Endpoints.{Filled, LaneInIs}
use Rattle.flow_worker.specs.Pairs.{EachPair}
use Rattle.flow_worker.proofs.HandMasks.{one_pair}
use Rattle.flow_worker.proofs.lanes_in.LanesIn.fill.Goals as goal

pub returns-then-len-eq1-clause-filled : goal.returns-then-len-eq1-clause-filled
returns-then-len-eq1-clause-filled g c =
    let f = c.fill_at.ensures.filled in
    let a = c.len.ensures.is in
    let b = c.if-len-eq1.true in
    subst (λ (xs : List LaneInIs). EachPair Filled c.args.self.now xs) (sym f.set_is) (one_pair Filled c.args.self.now f.at (omega (arith, a, b)) f.filled)
