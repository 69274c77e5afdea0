use Rattle.std.proofs.Common.{None, subst, sym}
use Rattle.std.proofs.lemmas.Result.{IfOk-at_ok}
use Rattle.jobs.specs.Job.{job_view}
use Rattle.versions.specs.Judged.{AreAccepted}
use Rattle.versions.specs.declared.in_order.Judged.{Judged}
use Rattle.test_streams.proofs.tests.parts.begun.Goals as goal

pub begin-requires : goal.begin-requires
begin-requires g c =
    let job = job_view c.expect-job.result in
    subst (λ (j : Judged). AreAccepted job j.accepted)
    (sym (IfOk-at_ok _ c.expect-judged.ensures c.judge_all.ensures))
    (c.accepted_requests_stay_accepted.ensures None job _)
