use Rattle.std.proofs.Common.{rules}
use Rattle.control_box.proofs.Steps.{load_turned}
use Rattle.control_box.proofs.endpoints.Poster.ready.Goals as goal

pub load-turned-requires : goal.load-turned-requires
load-turned-requires c = (search rules, search rules, load_turned _ _ _ c.self.invariant.3)
