use Rattle.std.proofs.Common.{ap, sym}
use Rattle.std.proofs.lemmas.Result.{err_from_is_err_and}
use Rattle.jobs.specs.Job.{job_view}
use Rattle.payments.specs.World.{ShelfState}
use Rattle.stream_call.specs.Unopened.{NoJob, NoMemory, NoRequests, NoSource}
use Rattle.stream_call.proofs.opened.asked_in.Goals as goal

pub returns-clause-job : goal.returns-clause-job
returns-clause-job g c = rw c.in_ok-job-2.ensures c.in_ok-job.ensures.job

pub returns-clause-asked : goal.returns-clause-asked
returns-clause-asked g c =
    rw (sym c.in_ok-job.ensures.files) (rw c.deref.ensures at c.in_ok-file.ensures.asked)

pub returns-in_err-job-clause-cause : goal.returns-in_err-job-clause-cause
returns-in_err-job-clause-cause g c =
    let fault = err_from_is_err_and c.from_residual.result c.from_residual.ensures.1 in
    rw (fault.1, fault.2) (NoJob _ c.in_err-job.ensures.cause)

pub returns-in_err-job-2-clause-cause : goal.returns-in_err-job-2-clause-cause
returns-in_err-job-2-clause-cause g c =
    let fault =
    err_from_is_err_and c.from_residual-in_err-job-2.result
    c.from_residual-in_err-job-2.ensures.1 in
    rw (fault.1, fault.2) (NoMemory (ap (λ (s : ShelfState). s.faults) c.in_ok-job.ensures.kept))

pub returns-in_err-file-clause-cause : goal.returns-in_err-file-clause-cause
returns-in_err-file-clause-cause g c =
    let fault =
    err_from_is_err_and c.from_residual-in_err-file.result
    c.from_residual-in_err-file.ensures.1 in
    rw (fault.1, fault.2)
    (NoRequests (job_view c.in_ok-job-2.job.value) c.in_err-file.field-0.0
    (rw c.in_ok-job-2.ensures c.in_ok-job.ensures.job)
    (rw (sym c.in_ok-job.ensures.kept) (rw c.deref.ensures at c.in_err-file.ensures.cause)))

pub returns-in_err-source-clause-cause : goal.returns-in_err-source-clause-cause
returns-in_err-source-clause-cause g c =
    let fault =
    err_from_is_err_and c.from_residual-in_err-source.result
    c.from_residual-in_err-source.ensures.1 in
    rw (fault.1, fault.2, c.in_err-source.ensures.none.0)
    (NoSource (job_view c.in_ok-job-2.job.value)
    (rw c.in_ok-job-2.ensures c.in_ok-job.ensures.job)
    (rw c.deref-2.ensures at c.in_err-source.ensures.none.1))
