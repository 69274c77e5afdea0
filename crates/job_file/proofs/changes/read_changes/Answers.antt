use Rattle.std.proofs.Common.{◌∙◌}
use Rattle.std.proofs.lemmas.Result.{err_from_is_err_and}
use Rattle.job_file.specs.Changes.{change_of}
use Rattle.jobs.specs.Job.{job_view}
use Rattle.job_file.proofs.ItemLemmas.{all_of-Err, all_of-Ok, all_of-end}
use Rattle.job_file.proofs.changes.read_changes.Goals as goal

pub returns-in_err-read_change-clause-fault : goal.returns-in_err-read_change-clause-fault
returns-in_err-read_change-clause-fault c =
    let p = err_from_is_err_and c.from_residual.result c.from_residual.ensures.1 in
    rw (p.1, p.2) (λ other. c.loop-item.invariant ∙ all_of-Err (change_of (job_view c.args.job.now)) c.loop-item.list c.args.items.now c.loop-item.item-index c.item-item.result _ c.loop-item-test.true c.item-item.is (c.in_err-read_change.ensures.fault other))

pub loop-item-preserved : goal.loop-item-preserved
loop-item-preserved c =
    rw c.in_ok-push.ensures.ok (c.loop-item.invariant
    ∙ all_of-Ok (change_of (job_view c.args.job.now)) c.loop-item.list c.args.items.now c.loop-item.item-index c.item-item.result _ c.loop-item-test.true c.item-item.is c.in_ok-read_change.ensures.ok)

pub returns-clause-ok : goal.returns-clause-ok
returns-clause-ok c = c.loop-item.invariant ∙ all_of-end (change_of (job_view c.args.job.now)) c.loop-item.list c.args.items.now c.loop-item.item-index c.loop-item-test.false
