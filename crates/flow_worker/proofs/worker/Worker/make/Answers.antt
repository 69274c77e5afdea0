use Rattle.std.proofs.Common.{refl, subst, sym}
use Rattle.std.proofs.lemmas.Result.{IfOk-weaker}
use Rattle.std.specs.FinMap.{empty}
use Rattle.flow_model.specs.Begin.{at_first}
use Rattle.flow_model.specs.Setup.{setup_view}
use Rattle.flow_model.specs.declared.worker_state.WorkerState.{WorkerState}
use Rattle.flow_worker.specs.Parts.{IsStateAt}
use Rattle.flow_worker.proofs.Beginning.{first_state}
use Rattle.flow_worker.proofs.worker.Worker.make.Goals as goal

pub returns-clause-law : goal.returns-clause-law
returns-clause-law g c =
    let setup = setup_view c.args.who.setup.now in
    let begin = at_first setup in
    let begun = first_state setup c.args.who.number empty c.args.who.there refl in
    let state =
    subst (λ (s : WorkerState).
    IsStateAt setup begin c.args.who.number (record { turned = 0; state = s })) (sym c.new-state.ensures)
    begun in
    IfOk-weaker c.begin.result _ _ (λ w law. law begin state) c.begin.ensures.law
