use Rattle.std.proofs.Common.{◌≡◌, ◌+◌, ◌-◌, arith, ap, slice_get, subst, Some}
use Rattle.std.proofs.lemmas.List.{length-map}
use Rattle.versions.specs.declared.request.Request.{Request}
use Rattle.flow_model.specs.Requests.{afters}
use Rattle.flow_model.specs.Setup.{setup_view}
use Rattle.coordinator.proofs.LiveLemmas.{get_released, unreleased_there}
use Rattle.coordinator.proofs.state.FeederState.row_waited_for.Goals as goal

pub returns-then-self-released : goal.returns-then-self-released
returns-then-self-released g c =
    let setup = setup_view c.args.setup.now in
    let same : c.self.inside.issued ≡ c.args.self.now.issued = ap (λ f. f.issued) c.self.view_is in
    unreleased_there c.args.released c.args.rows c.args.self.now.issued (afters setup.requests)
    (omega (arith, c.requires.left, length-map setup.requests (λ (request : Request). request.after))) (omega (arith, same, c.if-self-released.true))

pub returns : goal.returns
returns g c =
    let setup = setup_view c.args.setup.now in
    let same : c.self.inside.issued ≡ c.args.self.now.issued = ap (λ f. f.issued) c.self.view_is in
    let here : c.self.inside.issued + 1 - 1 ≡ c.args.self.now.issued = omega (arith, same) in
    get_released c.args.released c.args.rows (afters setup.requests) c.args.self.now.issued c.after.result
    (subst (λ k. slice_get (afters setup.requests) k ≡ Some c.after.result) here c.after.ensures) (omega (arith, same, c.if-self-released.false))
