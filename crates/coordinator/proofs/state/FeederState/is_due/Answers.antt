use Rattle.std.proofs.Common.{◌≡◌, arith, ap}
use Rattle.std.proofs.lemmas.List.{length-map}
use Rattle.versions.specs.declared.request.Request.{Request}
use Rattle.flow_model.specs.Requests.{afters}
use Rattle.flow_model.specs.Setup.{setup_view}
use Rattle.coordinator.proofs.LiveLemmas.{ahead_past}
use Rattle.coordinator.proofs.state.FeederState.is_due.Goals as goal

pub returns-then-self-request_count-clause-undue : goal.returns-then-self-request_count-clause-undue
returns-then-self-request_count-clause-undue g c = λ _.
    let setup = setup_view c.args.setup.now in
    let same : c.self.inside.issued ≡ c.args.self.now.issued = ap (λ f. f.issued) c.self.view_is in
    ahead_past c.args.released c.args.rows c.args.self.now.row c.args.self.now.issued (afters setup.requests)
    (omega (arith, same, c.if-self-request_count.true, c.request_count.ensures, length-map setup.requests (λ (request : Request). request.after)))
