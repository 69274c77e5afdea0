use Rattle.std.proofs.Common.{None, sym, subst}
use Rattle.jobs.specs.Job.{job_view}
use Rattle.versions.specs.Judged.{AreAccepted}
use Rattle.versions.specs.declared.in_order.Judged.{Judged}
use Rattle.test_runs.proofs.inputs.setup_of.Goals as goal

pub made-requires : goal.made-requires
made-requires c =
    let job = job_view c.args.job in
    subst (λ (j : Judged). AreAccepted job j.accepted) (sym c.in-Ok-judge_all.ensures)
    (c.accepted_requests_stay_accepted.ensures None job _)
