use Rattle.std.proofs.Common.{arith}
use Rattle.flow_worker.proofs.MaskLemmas.{first_place, less_shifted, no_place}
use Rattle.flow_worker.proofs.masks.first_from.Goals as goal

pub returns-then-rest-eq0 : goal.returns-then-rest-eq0
returns-then-rest-eq0 c = no_place c.args.mask c.args.from c.if-rest-eq0.true

pub returns : goal.returns
returns c = let ne = c.if-rest-eq0.false in first_place c.args.mask c.args.from (omega (arith, ne)) (less_shifted c.args.mask c.args.from c.ranges.mask.fits)
