use Rattle.std.proofs.Common.{sym, subst, arith, bit_and, bit_or}
use Rattle.std.specs.Int.{bit_not, w128}
use Rattle.flow_worker.specs.Masks.{IsMaskWith}
use Rattle.flow_worker.proofs.MaskLemmas.{put_in_as, put_out_as}
use Rattle.flow_worker.proofs.masks.with_place.Goals as goal

pub returns-then-is_in : goal.returns-then-is_in
returns-then-is_in c =
    subst (λ p. IsMaskWith p c.args.is_in c.args.mask (bit_or c.args.mask 1)) (sym c.if-place-eq0.true) (put_in_as c.args.mask 0 c.args.is_in c.if-is_in.true (omega arith))

pub returns-else-is_in : goal.returns-else-is_in
returns-else-is_in c =
    subst (λ p. IsMaskWith p c.args.is_in c.args.mask (bit_and c.args.mask (bit_not w128 1))) (sym c.if-place-eq0.true) (put_out_as c.args.mask 0 c.args.is_in c.if-is_in.false (omega arith) c.ranges.mask.fits)

pub returns-then-is_in-2 : goal.returns-then-is_in-2
returns-then-is_in-2 c = put_in_as c.args.mask c.args.place c.args.is_in c.if-is_in-2.true c.requires

pub returns-else-is_in-2 : goal.returns-else-is_in-2
returns-else-is_in-2 c = put_out_as c.args.mask c.args.place c.args.is_in c.if-is_in-2.false c.requires c.ranges.mask.fits
