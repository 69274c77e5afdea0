use Rattle.std.proofs.Common.{arith}
use Rattle.jobs.specs.Job.{job_view}
use Rattle.audit_check.proofs.NameLemmas.{name_within}
use Rattle.audit_check.proofs.names.search.Goals as goal

pub returns-clause-none : goal.returns-clause-none
returns-clause-none c worker e =
    let lt = name_within (job_view c.args.setup.now.job) worker _ e in
    let many = c.workers-worker-end.ensures.value in
    c.loop-worker.invariant worker (omega arith) e
