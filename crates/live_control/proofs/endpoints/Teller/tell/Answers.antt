use Rattle.std.proofs.Common.{rules}
use Rattle.live_control.proofs.Steps.{store_released}
use Rattle.live_control.proofs.endpoints.Teller.tell.Goals as goal

pub store-requires : goal.store-requires
store-requires c = (search rules, search rules, store_released _ _ _ _ c.self.invariant.3 (search rules))
