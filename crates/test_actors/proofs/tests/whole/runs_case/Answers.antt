use Rattle.std.proofs.Common.{rules}
use Rattle.test_actors.proofs.tests.whole.runs_case.Goals as goal

pub whole-requires-after_bounds : goal.whole-requires-after_bounds
whole-requires-after_bounds g c κs within = rw c.all-rows.ensures (search rules)
