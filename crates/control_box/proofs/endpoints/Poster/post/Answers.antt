use Rattle.std.proofs.Common.{rules}
use Rattle.control_box.proofs.Steps.{store_posted}
use Rattle.control_box.proofs.endpoints.Poster.post.Goals as goal

pub store-requires : goal.store-requires
store-requires c = (search rules, search rules, store_posted _ _ _ _ c.self.invariant.3 (search rules) (search rules))
