use Rattle.std.proofs.Common.{◌<◌, ◌^◌, arith}
use Rattle.cover_planner.proofs.EmptyLemmas.{is_zero}
use Rattle.cover_planner.proofs.nodes.is_empty.Goals as goal

pub returns : goal.returns
returns c = let fits : c.args.mask < 2 ^ 64 = omega arith in is_zero c.args.mask fits
