use Rattle.flow_runner.proofs.Keeps.{begins}
use Rattle.flow_runner.proofs.moves.open.Goals as goal

pub with_rule-requires : goal.with_rule-requires
with_rule-requires g c = begins _
