use Rattle.flow_worker.proofs.MaskLemmas.{every_bit}
use Rattle.flow_worker.proofs.OutMasks.{all_marks}
use Rattle.flow_worker.proofs.lanes_out.LanesOut.flush_each.Goals as goal

pub invariant_of-self : goal.invariant_of-self
invariant_of-self g c = all_marks 340282366920938463463374607431768211455 _ (λ k l m. every_bit k l)
