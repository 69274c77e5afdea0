use Rattle.std.proofs.Common.{◌≡◌, List, All, take, arith, subst}
use Rattle.std.proofs.lemmas.List.{take_all}
use Rattle.std.proofs.lemmas.List.Elements.{All-more}
use Rattle.cover_planner.specs.declared.cover.Plan.{Plan}
use Rattle.flow_laws.specs.Determined.{NumbersAllNodes}
use Rattle.flow_laws.proofs.plans.number_all_nodes.Goals as goal

pub loop-plan-preserved : goal.loop-plan-preserved
loop-plan-preserved c =
    All-more NumbersAllNodes c.args.plans.now c.loop-plan.plan-index _ (let t = c.loop-plan-test.true in omega (arith, t)) c.loop-plan.invariant c.has_all_numbers.ensures

pub returns : goal.returns
returns c =
    let all = c.args.plans.now in
    let whole : take c.loop-plan.plan-index all ≡ all = take_all c.loop-plan.plan-index all (let t = c.loop-plan-test.false in omega (arith, t)) in
    subst (λ (l : List Plan). All NumbersAllNodes l) whole c.loop-plan.invariant
