use Rattle.flow_worker.proofs.MaskLemmas.{all_bits}
use Rattle.flow_worker.proofs.masks.all_places.Goals as goal

pub returns : goal.returns
returns c k = all_bits c.args.count k c.requires
