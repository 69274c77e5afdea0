use Rattle.std.proofs.Common.{rules}
use Rattle.control_box.proofs.Steps.{load_posted}
use Rattle.control_box.proofs.endpoints.Owner.poll.Goals as goal

pub load-requires : goal.load-requires
load-requires c = (search rules, search rules, load_posted _ _ _ c.self.invariant.3)
