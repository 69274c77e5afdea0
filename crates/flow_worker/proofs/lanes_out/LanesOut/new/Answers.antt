use Rattle.flow_worker.proofs.OutMasks.{new_marks}
use Rattle.flow_worker.proofs.lanes_out.LanesOut.new.Goals as goal

pub invariant_of-result : goal.invariant_of-result
invariant_of-result g c = new_marks c.args.lanes.items c.requires
