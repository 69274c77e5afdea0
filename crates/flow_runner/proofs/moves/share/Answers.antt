use Rattle.flow_runner.proofs.Keeps.{forks}
use Rattle.flow_runner.proofs.moves.share.Goals as goal

pub another-requires-clause-rule : goal.another-requires-clause-rule
another-requires-clause-rule g c = forks _ _ _ c.requires.part
