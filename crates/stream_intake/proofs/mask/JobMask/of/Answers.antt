use Rattle.std.proofs.Common.{◌≡◌, ◌∙◌, ◌↔◌, ◌||◌, ℕ, List, [], None, ap, subst, sym, slice_get}
use Rattle.std.specs.Prelude.{IsTrue}
use Rattle.flow_dag.specs.Masks.{Has}
use Rattle.jobs.specs.Job.{job_view}
use Rattle.jobs.specs.declared.job.Job.{Job}
use Rattle.versions.specs.Judged.{AreAccepted}
use Rattle.versions.specs.declared.in_order.Judged.{Judged}
use Rattle.versions.specs.declared.request.Request.{Request}
use Rattle.flow_model.specs.Planned.{may_become_split, splits_at}
use Rattle.stream_intake.specs.Intake.{IsMaskOfNodes}
use Rattle.stream_intake.proofs.IntakeLemmas.{judged_none}
use Rattle.stream_intake.proofs.MaskLemmas.{mask_of_none}
use Rattle.stream_intake.proofs.mask.JobMask.of.Goals as goal

pub make_for_stream-requires : goal.make_for_stream-requires
make_for_stream-requires c =
    subst (AreAccepted (job_view c.args.job)) (sym c.none.ensures.accepted)
    (ap (λ (j : Judged). j.refused) (judged_none None (job_view c.args.job)))

pub returns-clause-splits : goal.returns-clause-splits
returns-clause-splits c =
    let setup = c.in_ok-job.field-0 in
    let none : setup.judged.accepted ≡ [] =
    ap (λ (j : Judged). j.accepted) c.in_ok-job.ensures.judged ∙ c.none.ensures.accepted in
    subst (λ (j : Job). IsMaskOfNodes j.nodes setup.splits) c.in_ok-job.ensures.job
    (mask_of_none setup.job.nodes setup.splits
    (subst (λ (l : List Request). (node : ℕ)
    → Has setup.splits node ↔ IsTrue
    (splits_at setup.job.nodes l node || may_become_split (slice_get setup.job.nodes node))) none
    c.in_ok-job.ensures.exact.splits))
