use Rattle.std.proofs.Common.{ap, arith, subst}
use Rattle.std.specs.Prelude.{IfOk}
use Rattle.flow_model.specs.Begin.{Begin}
use Rattle.flow_model.specs.Setup.{setup_view}
use Rattle.flow_crew.specs.Crews.{IsCrew}
use Rattle.flow_crew.proofs.Crewing.{first_has_all}
use Rattle.flow_crew.proofs.crew.Crew.make.Goals as goal

pub make_from-requires-clause-turned : goal.make_from-requires-clause-turned
make_from-requires-clause-turned g c κs within =
    let none = ap (λ (b : Begin). b.turned) c.in_ok-start.ensures in omega (arith, none)

pub make_from-requires-clause-states : goal.make_from-requires-clause-states
make_from-requires-clause-states g c κs within = first_has_all (setup_view c.args.setup.now) c.in_ok-start.start c.in_ok-start.ensures

pub returns-clause-workers : goal.returns-clause-workers
returns-clause-workers g c =
    subst (λ (b : Begin). IfOk c.make_from.result (λ crew. IsCrew (setup_view c.args.setup.now) b crew.workers.items)) c.in_ok-start.ensures c.make_from.ensures.workers
