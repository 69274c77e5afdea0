use Rattle.std.proofs.Common.{◌∙◌}
use Rattle.std.proofs.lemmas.Result.{err_from_is_err_and}
use Rattle.job_file.specs.Steps.{step_of}
use Rattle.job_file.proofs.ItemLemmas.{all_of-Err, all_of-Ok, all_of-end}
use Rattle.job_file.proofs.steps.read_steps.Goals as goal

pub returns-in_err-read_step-clause-fault : goal.returns-in_err-read_step-clause-fault
returns-in_err-read_step-clause-fault c =
    let p = err_from_is_err_and c.from_residual.result c.from_residual.ensures.1 in
    rw (p.1, p.2) (λ other. c.loop-item.invariant ∙ all_of-Err (step_of c.args.columns.now) c.loop-item.list c.args.items.now c.loop-item.item-index c.item-item.result _ c.loop-item-test.true c.item-item.is c.in_err-read_step.ensures.fault)

pub loop-item-preserved : goal.loop-item-preserved
loop-item-preserved c =
    rw c.in_ok-push.ensures.ok (c.loop-item.invariant
    ∙ all_of-Ok (step_of c.args.columns.now) c.loop-item.list c.args.items.now c.loop-item.item-index c.item-item.result _ c.loop-item-test.true c.item-item.is c.in_ok-read_step.ensures.ok)

pub returns-clause-ok : goal.returns-clause-ok
returns-clause-ok c = c.loop-item.invariant ∙ all_of-end (step_of c.args.columns.now) c.loop-item.list c.args.items.now c.loop-item.item-index c.loop-item-test.false
