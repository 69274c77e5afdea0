use Rattle.std.proofs.Common.{None, sym, subst}
use Rattle.jobs.specs.Job.{job_view}
use Rattle.versions.specs.Judged.{AreAccepted}
use Rattle.versions.specs.declared.in_order.Judged.{Judged}
use Rattle.fries_steps.proofs.setup.setup_of.Goals as goal

pub setup_in_mode-requires : goal.setup_in_mode-requires
setup_in_mode-requires c =
    let stay = c.accepted_requests_stay_accepted.ensures None (job_view c.args.job) c.args.requests.now in
    subst (λ (j : Judged). AreAccepted (job_view c.args.job) j.accepted) (sym c.in_ok-judged.ensures) stay
