use Rattle.flow_runner.proofs.Keeps.{pushes}
use Rattle.flow_runner.proofs.moves.give.Goals as goal

pub push_as-requires-clause-rule : goal.push_as-requires-clause-rule
push_as-requires-clause-rule g c = λ n. pushes _ n _ _ _ c.requires.part c.requires.has c.requires.charter
