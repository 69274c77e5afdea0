use Rattle.std.proofs.Common.{rules, subst}
use Rattle.flow_model.specs.Begin.{Begin}
use Rattle.flow_model.specs.Run.{IsRunSince, ran_as}
use Rattle.flow_model.specs.Setup.{setup_view}
use Rattle.audit_restore.proofs.check.check_audit.Goals as goal

pub returns-in-Err-clause-found : goal.returns-in-Err-clause-found
returns-in-Err-clause-found c run is fits =
    let memory = c.in-Err.ensures.found run is fits in
    search (rules, memory)

pub returns-in-Ok-clause-only : goal.returns-in-Ok-clause-only
returns-in-Ok-clause-only c run is fits = c.in-Ok.ensures.only run is fits

pub returns-in-Ok-clause-consistent : goal.returns-in-Ok-clause-consistent
returns-in-Ok-clause-consistent c first =
    let setup = setup_view c.args.setup in
    let run =
    subst (λ (b : Begin).
    IsRunSince b setup c.args.rows.now
    (ran_as setup c.in-Ok.feeds c.in-Ok.restored.journals c.in-Ok.restored.states)) first
    c.in-Ok.ensures.run in
    c.runs_are_consistent.ensures _ _ c.are_numbered.ensures run c.requires.sources
