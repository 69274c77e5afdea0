use Rattle.std.proofs.Common.{ap, subst}
use Rattle.jobs.specs.Job.{job_view}
use Rattle.versions.specs.declared.in_order.Judged.{Judged}
use Rattle.stream_step.specs.Pending.{AreAsked}
use Rattle.stream_step.proofs.stream.Stream.resume.Goals as goal

pub returns-clause-asked : goal.returns-clause-asked
returns-clause-asked c =
    subst (AreAsked (job_view c.resumed.result.setup.job) c.resumed.result.setup.judged.accepted
    c.resumed.result.pending) (ap (λ (j : Judged). j.accepted) c.in_ok-setup.ensures.judged)
    c.resumed.ensures.asked
