use Rattle.std.proofs.Common.{rules}
use Rattle.test_actors.proofs.tests.feeds.feeds_case.Goals as goal

pub fed-requires-after_bounds : goal.fed-requires-after_bounds
fed-requires-after_bounds g c κs within = rw c.all-rows.ensures (search rules)
