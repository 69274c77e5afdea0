use Rattle.std.proofs.Common.{◌∙◌}
use Rattle.flow_worker.proofs.InMasks.{new_masks}
use Rattle.flow_worker.proofs.lanes_in.LanesIn.new.Goals as goal

pub invariant_of-result : goal.invariant_of-result
invariant_of-result g c =
    new_masks 0 c.all_places-empty.result c.len.result c.args.lanes.items (c.len.ensures ∙ c.args.lanes.ok.0) c.all_places-empty.ensures c.requires.hands c.requires.few
