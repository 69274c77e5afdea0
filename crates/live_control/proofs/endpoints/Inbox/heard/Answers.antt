use Rattle.std.proofs.Common.{rules}
use Rattle.live_control.proofs.LoadLemmas.{loads_last}
use Rattle.live_control.proofs.Steps.{load_released}
use Rattle.live_control.proofs.endpoints.Inbox.heard.Goals as goal

pub load-released-requires : goal.load-released-requires
load-released-requires c = (search rules, search rules, load_released _ _ _ c.self.invariant.3)

pub invariant_of-self : goal.invariant_of-self
invariant_of-self c = (search rules, search rules, search rules, search rules, loads_last _ _ _ c.load-released.ensures.2)
