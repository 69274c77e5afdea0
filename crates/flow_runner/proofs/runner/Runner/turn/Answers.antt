use Rattle.std.proofs.Common.{◌∙◌, ap}
use Rattle.flow_runner.specs.Runner.{RunnerIs, endpoints_of}
use Rattle.flow_runner.proofs.Turns.{same_ends}
use Rattle.flow_runner.proofs.runner.Runner.turn.Goals as goal

pub returns-clause-endpoints : goal.returns-clause-endpoints
returns-clause-endpoints g c = same_ends _ _ c.turn-turn.ensures.endpoints ∙ (ap endpoints_of c.deref_mut.ensures.value ∙ ap (λ (r : RunnerIs). r.endpoints) c.self.view_is)
