use Rattle.std.proofs.Common.{◌≤◌, ◌-◌, ◌^◌, ℕ, List, arith, length, subst}
use Rattle.std.proofs.lemmas.List.{length-map}
use Rattle.versions.specs.declared.request.Request.{Request}
use Rattle.flow_model.specs.Requests.{afters}
use Rattle.flow_model.specs.Setup.{setup_view}
use Rattle.coordinator.specs.Steps.{Steps}
use Rattle.coordinator.proofs.LiveLemmas.{all_released}
use Rattle.coordinator.proofs.Telling.{is_turn}
use Rattle.coordinator.proofs.state.FeederState.turn.Goals as goal

pub step-requires-clause-law : goal.step-requires-clause-law
step-requires-clause-law g c = (c.requires.law.0, afters (setup_view c.args.setup.now).requests, c.requires.law.1.feeding)

pub returns : goal.returns
returns g c =
    let setup = setup_view c.args.setup.now in
    let few : length (afters setup.requests) ≤ 2 ^ 64 - 1 = omega (arith, length-map setup.requests (λ (request : Request). request.after), c.request_count-requests.ensures, c.request_count-requests.type_inv) in
    is_turn setup c.args.rows.now c.args.self.now c.step.new.self c.step.result
    (subst (λ (xs : List ℕ). Steps setup xs c.args.rows.now c.args.self.now c.step.new.self c.step.result) (all_released (2 ^ 64 - 1) (length c.args.rows.now) (afters setup.requests) few) c.step.ensures)
