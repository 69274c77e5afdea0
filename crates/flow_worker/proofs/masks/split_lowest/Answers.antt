use Rattle.std.proofs.Common.{arith}
use Rattle.flow_worker.proofs.MaskLemmas.{lowest_taken}
use Rattle.flow_worker.proofs.masks.split_lowest.Goals as goal

pub returns : goal.returns
returns c = let ne = c.requires in lowest_taken c.args.mask (omega (arith, ne)) c.ranges.mask.fits
