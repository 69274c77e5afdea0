use Rattle.std.proofs.Math.Bool.{Bool-set}
use Rattle.std.proofs.Math.Logic.{∥∥₁_elim}
use Rattle.flow_model.specs.Setup.{setup_view}
use Rattle.flow_model.proofs.AskedLemmas.{asked-changed}
use Rattle.flow_model.proofs.laws.changed_nodes_are_asked.Goals as goal

pub returns : goal.returns
returns c request node h = ∥∥₁_elim c.args.setup.now.planned (Bool-set _ _) (λ is. asked-changed (setup_view c.args.setup.now) is request node h)
