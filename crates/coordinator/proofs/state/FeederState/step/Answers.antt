use Rattle.std.proofs.Common.{arith, refl}
use Rattle.std.proofs.lemmas.List.{length-map}
use Rattle.versions.specs.declared.request.Request.{Request}
use Rattle.flow_model.specs.Requests.{afters}
use Rattle.flow_model.specs.Setup.{setup_view}
use Rattle.coordinator.proofs.LiveLemmas.{reached_left}
use Rattle.coordinator.proofs.state.FeederState.step.Goals as goal

pub issue_next-requires-clause-left : goal.issue_next-requires-clause-left
issue_next-requires-clause-left g c =
    let setup = setup_view c.args.setup.now in
    let lt = reached_left c.args.released c.len.result c.args.self.now.row c.args.self.now.issued (afters setup.requests) (c.if-is_due.ensures.due refl) in
    omega (arith, lt, length-map setup.requests (λ (request : Request). request.after))
