use Rattle.std.proofs.Common.{◌≡◌, ◌∙◌, ◌<◌, ◌≤◌, ◌+◌, Some, ap, drop, length, subst, sym}
use Rattle.std.proofs.lemmas.Result.{IfOk-weaker}
use Rattle.jobs.specs.Job.{job_view}
use Rattle.versions.specs.Judged.{AreAccepted}
use Rattle.versions.specs.declared.in_order.Judged.{Judged}
use Rattle.stream_save.specs.declared.fault.StreamSaveFault.TheVariants as fault
use Rattle.stream_step.specs.Pending.{AreAsked}
use Rattle.stream_intake.proofs.GoneLemmas.{both_ok, enough_ok, map_err, told_alike}
use Rattle.stream_intake.proofs.GoneLemmas.{told_fault, told_mask, told_resumed}
use Rattle.stream_intake.proofs.resumed.restored.Goals as goal

pub returns-clause-resumed : goal.returns-clause-resumed
returns-clause-resumed c =
    IfOk-weaker c.resume.result _ _
    (told_resumed c.accepted_requests_split_within.ensures c.args.job c.in_ok-job.field-0.job
    c.in_ok-job.field-0.splits c.args.known.now.requests c.args.mode.ordered c.args.save
    c.in_ok-judged.judged
    c.in_ok-job.ensures.splits c.in_ok-job.ensures.job c.in_ok-judged.ensures)
    c.resume.ensures.resumed

pub returns-clause-splits : goal.returns-clause-splits
returns-clause-splits c =
    IfOk-weaker c.resume.result _ _
    (told_mask c.accepted_requests_split_within.ensures c.args.job c.in_ok-job.field-0.job
    c.in_ok-job.field-0.splits c.args.known.now.requests c.args.mode.ordered c.args.save
    c.in_ok-judged.judged
    c.in_ok-job.ensures.splits c.in_ok-job.ensures.job c.in_ok-judged.ensures)
    c.resume.ensures.resumed

pub returns-clause-is_known : goal.returns-clause-is_known
returns-clause-is_known c =
    let alike =
    told_alike c.accepted_requests_split_within.ensures c.args.job c.in_ok-job.field-0.job
    c.in_ok-job.field-0.splits c.args.known.now.requests c.args.mode.ordered c.args.save
    c.in_ok-judged.judged
    c.in_ok-job.ensures.splits c.in_ok-job.ensures.job c.in_ok-judged.ensures in
    both_ok _ _ _ c.resume.result
    (λ s is asked. subst (λ (d : Judged). AreAsked (job_view s.setup.job) s.setup.judged.accepted
    s.pending d.accepted) (alike s is) asked)
    c.resume.ensures.resumed c.resume.ensures.asked

pub returns-clause-pending : goal.returns-clause-pending
returns-clause-pending c =
    let alike =
    told_alike c.accepted_requests_split_within.ensures c.args.job c.in_ok-job.field-0.job
    c.in_ok-job.field-0.splits c.args.known.now.requests c.args.mode.ordered c.args.save
    c.in_ok-judged.judged
    c.in_ok-job.ensures.splits c.in_ok-job.ensures.job c.in_ok-judged.ensures in
    both_ok _ _ _ c.resume.result (λ s is pending. pending ∙ ap
    (λ (d : Judged). drop c.args.save.start.turned d.accepted) (alike s is))
    c.resume.ensures.resumed c.resume.ensures.pending

pub returns-clause-enough : goal.returns-clause-enough
returns-clause-enough c =
    let alike =
    told_alike c.accepted_requests_split_within.ensures c.args.job c.in_ok-job.field-0.job
    c.in_ok-job.field-0.splits c.args.known.now.requests c.args.mode.ordered c.args.save
    c.in_ok-judged.judged
    c.in_ok-job.ensures.splits c.in_ok-job.ensures.job c.in_ok-judged.ensures in
    enough_ok _ _ _ c.resume.result
    (λ s is enough. subst (λ (d : Judged). c.args.save.start.turned ≤ length d.accepted)
    (alike s is) enough) c.resume.ensures.resumed c.resume.ensures.enough

pub returns-clause-fault : goal.returns-clause-fault
returns-clause-fault c =
    map_err _ _ c.resume.result
    (λ error is other splits mask. subst
    (λ (d : Judged). (length d.accepted < c.args.save.start.turned)
    × (error ≡ fault.Count (length d.accepted + 1)))
    (told_fault c.accepted_requests_split_within.ensures c.args.job c.in_ok-job.field-0.job
    c.in_ok-job.field-0.splits c.args.known.now.requests c.args.mode.ordered c.args.save
    c.in_ok-judged.judged
    c.in_ok-job.ensures.splits c.in_ok-job.ensures.job c.in_ok-judged.ensures splits mask)
    (is other))
    c.resume.ensures.fault

pub resume-requires-clause-accepted : goal.resume-requires-clause-accepted
resume-requires-clause-accepted c =
    subst (λ (j : Judged). AreAccepted (job_view c.in_ok-job.field-0.job) j.accepted)
    (sym c.in_ok-judged.ensures)
    (c.accepted_requests_stay_accepted.ensures (Some c.in_ok-job.field-0.splits)
    (job_view c.in_ok-job.field-0.job) c.args.known.now.requests)
