use Rattle.std.proofs.Common.{inr}
use Rattle.std.proofs.lemmas.Result.{err_from_is_err_and}
use Rattle.jobs.specs.Job.{job_view}
use Rattle.fries_call.proofs.inputs.inputs_in.Goals as goal

pub returns-in_err-rows-clause-cause : goal.returns-in_err-rows-clause-cause
returns-in_err-rows-clause-cause g c =
    let of_job = c.in_ok-job.ensures.job in
    let of_requests = rw c.in_ok-job.ensures.kept at c.in_ok-requests.ensures.requests in
    let unread = rw (c.in_ok-requests.ensures.kept, c.in_ok-job.ensures.kept) at c.in_err-rows.ensures.cause in
    let fault = err_from_is_err_and c.from_residual-in_err-rows.result c.from_residual-in_err-rows.ensures.1 in
    rw (fault.1, fault.2) (inr (job_view c.in_ok-job.job, c.in_ok-requests.requests, of_job, of_requests, unread))
