use Rattle.flow_worker.proofs.MaskLemmas.{has_without}
use Rattle.flow_worker.proofs.masks.without.Goals as goal

pub returns : goal.returns
returns c k = has_without c.args.mask c.args.other k c.ranges.mask.fits c.ranges.other.fits
