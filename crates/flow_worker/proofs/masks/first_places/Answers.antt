use Rattle.flow_worker.proofs.MaskLemmas.{below_all, every_bit}
use Rattle.flow_worker.proofs.masks.first_places.Goals as goal

pub returns-then-count-le-MAX_LANES_IN : goal.returns-then-count-le-MAX_LANES_IN
returns-then-count-le-MAX_LANES_IN c k l m = below_all c.args.count k m c.all_places.result (c.all_places.ensures k)

pub returns-else-count-le-MAX_LANES_IN : goal.returns-else-count-le-MAX_LANES_IN
returns-else-count-le-MAX_LANES_IN c k l m = every_bit k l
