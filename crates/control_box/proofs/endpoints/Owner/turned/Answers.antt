use Rattle.std.proofs.Common.{rules}
use Rattle.control_box.proofs.Steps.{store_turned}
use Rattle.control_box.proofs.endpoints.Owner.turned.Goals as goal

pub store-requires : goal.store-requires
store-requires c = (search rules, search rules, store_turned _ _ _ _ c.self.invariant.3 (search rules))
