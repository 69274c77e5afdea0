use Rattle.std.proofs.Common.{◌<◌, ◌^◌, arith}
use Rattle.cover_planner.proofs.MemberLemmas.{HasOne-all}
use Rattle.cover_planner.proofs.members.has_two.Goals as goal

pub returns : goal.returns
returns c =
    let fits : c.args.mask < 2 ^ 64 = omega arith in
    HasOne-all c.args.mask c.loop-b.one c.loop-b.b c.loop-b.invariant 64 fits (omega arith)
