use Rattle.flow_runner.proofs.Keeps.{merges}
use Rattle.flow_runner.proofs.moves.unite.Goals as goal

pub absorb-requires-clause-rule : goal.absorb-requires-clause-rule
absorb-requires-clause-rule g c = merges _ _ _ _ _ c.requires.part
