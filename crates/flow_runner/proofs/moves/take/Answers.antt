use Rattle.flow_runner.proofs.Keeps.{pops, learns}
use Rattle.flow_runner.proofs.moves.take.Goals as goal

pub pop_as-requires-clause-rule : goal.pop_as-requires-clause-rule
pop_as-requires-clause-rule g c = (pops _ _ _ c.requires.part, learns _ _ _)
