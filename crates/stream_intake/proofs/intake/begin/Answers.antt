use Rattle.std.proofs.Common.{◌∙◌, ◌++◌, ◌↔◌, ◌||◌, ℕ, List, None, ap, subst, sym, slice_get}
use Rattle.std.specs.Prelude.{IsTrue}
use Rattle.flow_dag.specs.Masks.{Has}
use Rattle.jobs.specs.Job.{job_view}
use Rattle.versions.specs.Judged.{AreAccepted}
use Rattle.versions.specs.declared.in_order.Judged.{Judged}
use Rattle.versions.specs.declared.request.Request.{Request}
use Rattle.flow_model.specs.declared.setup.Setup.{Setup}
use Rattle.stream_intake.specs.Intake.{IsKnownTo, IsMaskOfNodes, accepted_after, refused_after}
use Rattle.flow_model.specs.Planned.{may_become_split, splits_at}
use Rattle.stream_intake.proofs.IntakeLemmas.{first_accepted, first_refused, judged_alike}
use Rattle.stream_intake.proofs.IntakeLemmas.{judged_none, none_known}
use Rattle.stream_intake.proofs.MaskLemmas.{mask_of_none}
use Rattle.stream_intake.proofs.intake.begin.Goals as goal

pub begin-requires : goal.begin-requires
begin-requires c =
    subst (λ (l : List Request). AreAccepted (job_view c.args.job) l) (sym c.none.ensures.accepted)
    (ap (λ (j : Judged). j.refused) (judged_none None (job_view c.args.job)))

pub learn-requires-clause-known : goal.learn-requires-clause-known
learn-requires-clause-known c =
    subst (λ (l : List Request). IsKnownTo l c.in_ok-stream.stream) (sym c.none-known.ensures)
    (none_known c.in_ok-stream.stream c.in_ok-stream.ensures.none
    (c.in_ok-stream.ensures.pending ∙ c.none.ensures.accepted))

pub returns-clause-splits : goal.returns-clause-splits
returns-clause-splits c =
    let first = c.in_ok-stream.stream in
    subst (λ (s : Setup). IsMaskOfNodes c.args.job.nodes s.splits) (sym c.in_ok-stream-2.ensures.setup)
    (mask_of_none c.args.job.nodes first.setup.splits
    (subst (λ (l : List Request). (node : ℕ)
    → Has first.setup.splits node ↔ IsTrue
    (splits_at c.args.job.nodes l node || may_become_split (slice_get c.args.job.nodes node)))
    c.none.ensures.accepted c.in_ok-stream.ensures.splits))

pub returns-clause-pending : goal.returns-clause-pending
returns-clause-pending c =
    let first = c.in_ok-stream.stream in
    let none : List Request = c.none-known.result.requests in
    c.in_ok-stream-2.ensures.pending
    ∙ (ap (λ (l : List Request). l ++ accepted_after first none (none ++ c.args.requests))
    (c.in_ok-stream.ensures.pending ∙ c.none.ensures.accepted)
    ∙ (ap (λ (l : List Request). accepted_after first l (l ++ c.args.requests)) c.none-known.ensures
    ∙ (first_accepted first c.args.requests
    ∙ sym (ap (λ (j : Judged). j.accepted)
    (judged_alike first c.in_ok-stream-2.field-0.stream c.args.requests
    c.in_ok-stream-2.ensures.setup)))))

pub returns-clause-refused : goal.returns-clause-refused
returns-clause-refused c =
    let first = c.in_ok-stream.stream in
    c.in_ok-stream-2.ensures.refused
    ∙ (ap (λ (l : List Request). refused_after first l (l ++ c.args.requests)) c.none-known.ensures
    ∙ (first_refused first c.args.requests
    ∙ sym (ap (λ (j : Judged). j.refused)
    (judged_alike first c.in_ok-stream-2.field-0.stream c.args.requests
    c.in_ok-stream-2.ensures.setup))))

pub returns-clause-exact : goal.returns-clause-exact
returns-clause-exact c =
    rw (c.in_ok-stream-2.ensures.exact, c.in_ok-stream-2.ensures.start)
    c.in_ok-stream.ensures.exact
