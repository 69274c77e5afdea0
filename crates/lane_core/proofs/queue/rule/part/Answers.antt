use Rattle.lane_core.proofs.Steps.{part-Forks}
use Rattle.lane_core.proofs.queue.rule.part.Goals as goal

pub another-requires-clause-rule : goal.another-requires-clause-rule
another-requires-clause-rule g c = part-Forks _ _ _ _ c.requires.first
