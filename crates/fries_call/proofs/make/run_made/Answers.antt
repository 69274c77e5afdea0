use Rattle.std.proofs.Common.{ap, inr}
use Rattle.std.proofs.lemmas.Result.{err_from_is_err_and}
use Rattle.fries_words.specs.Asked.{make_asked}
use Rattle.jobs.specs.Job.{job_view}
use Rattle.payments.specs.World.{ShelfState}
use Rattle.fries_call.proofs.MakeLemmas.{made_run}
use Rattle.fries_call.proofs.make.run_made.Goals as goal

pub returns-in_err-rows-clause-cause : goal.returns-in_err-rows-clause-cause
returns-in_err-rows-clause-cause g c =
    let fault = err_from_is_err_and c.from_residual-in_err-rows.result c.from_residual-in_err-rows.ensures.1 in
    rw (fault.1, fault.2) (inr (job_view c.in_ok-job.job, c.in_ok-job.ensures.job, c.in_err-rows.ensures.cause, ap (λ (s : ShelfState). s.faults) c.in_ok-job.ensures.kept))

pub returns-clause-run : goal.returns-clause-run
returns-clause-run g c =
    made_run (make_asked c.args.make.now) (g.S.Shelf.state c.args.shelf.now).files (job_view c.in_ok-job.job) c.in_ok-rows.rows c.in_ok-run_on_threads.field-0 c.in_ok-job.ensures.job c.in_ok-rows.ensures.rows
    (rw c.new-requests.ensures at c.in_ok-run_on_threads.ensures.run)
