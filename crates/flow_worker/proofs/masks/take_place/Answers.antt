use Rattle.flow_worker.proofs.MaskLemmas.{no_mask}
use Rattle.flow_worker.proofs.masks.take_place.Goals as goal

pub returns-then-was-eq0 : goal.returns-then-was-eq0
returns-then-was-eq0 c k = no_mask c.args.mask.now c.if-was-eq0.true k

pub returns : goal.returns
returns c = c.split_lowest-place.ensures
