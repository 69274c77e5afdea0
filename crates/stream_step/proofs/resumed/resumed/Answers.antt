use Rattle.std.proofs.Common.{◌≡◌, ◌∙◌, ◌++◌, ℕ, List, ap, drop, length, map, subst, sym, take}
use Rattle.std.proofs.Common.{true}
use Rattle.std.proofs.Math.Nat.{ℕ_set}
use Rattle.std.proofs.Math.Logic.{∥∥₁_elim}
use Rattle.jobs.specs.Job.{job_view}
use Rattle.jobs.specs.JobView.{JobView}
use Rattle.versions.specs.Judged.{AreAccepted}
use Rattle.versions.specs.Kept.{AreInOrder}
use Rattle.versions.specs.declared.request.Request.{Request}
use Rattle.flow_model.specs.Begin.{Begin}
use Rattle.flow_model.specs.Planned.{is_made_split, is_split_node}
use Rattle.flow_model.specs.SetupView.{SetupView}
use Rattle.flow_model.specs.Waiting.{with_afters}
use Rattle.flow_model.specs.Workers.{workers_in}
use Rattle.std.specs.Prelude.{slice_get}
use Rattle.stream_step.specs.Pending.{AreAsked, SplitWithin, lifted}
use Rattle.stream_step.proofs.PendingLemmas.{are_fed, or_right}
use Rattle.stream_step.proofs.ResumeLemmas.{as_many, made_dropped, resumed_accepted, resumed_asked}
use Rattle.stream_step.proofs.ResumeLemmas.{turned_all, waits_fed, waits_in_order}
use Rattle.stream_step.proofs.resumed.resumed.Goals as goal

pub issued-requires-clause-in_order : goal.issued-requires-clause-in_order
issued-requires-clause-in_order c =
    let all : List Request = c.args.setup.judged.accepted in
    let many =
    as_many c.args.start.turned c.args.waits.now all c.requires.turned c.requires.one_each in
    subst (λ (b : Begin). AreInOrder 0 (with_afters c.args.waits.now (take b.turned all)))
    (sym c.start.view_is)
    (waits_in_order c.args.start.row 0 c.args.waits.now
    (take c.args.start.turned all) many c.requires.waits)

pub invariant_of-result : goal.invariant_of-result
invariant_of-result c =
    let n : ℕ = c.args.start.turned in
    let row : ℕ = c.args.start.row in
    let waits : List ℕ = c.args.waits.now in
    let setup = c.args.setup in
    let all : List Request = setup.judged.accepted in
    let made = c.issued.result in
    let requests_are : made.judged.accepted ≡ with_afters waits (take n all) =
    ap (λ (s : SetupView). s.requests) c.issued.ensures.view
    ∙ ap (λ (b : Begin). with_afters waits (take b.turned all)) c.start.view_is in
    let job_is : job_view made.job ≡ job_view setup.job =
    ap (λ (s : SetupView). s.job) c.issued.ensures.view in
    let splits_are : made.splits ≡ setup.splits =
    ap (λ (s : SetupView). s.splits) c.issued.ensures.view in
    let fed =
    waits_fed row 0 waits (take n all)
    (as_many n waits all c.requires.turned c.requires.one_each) c.requires.waits in
    let within : SplitWithin setup.splits (drop n all) =
    λ node made_split. ∥∥₁_elim setup.planned (ℕ_set _ _)
    (λ is. is.splits node (or_right (is_split_node (slice_get setup.job.nodes node))
    (is_made_split all node) (made_dropped n all node made_split))) in
    record {
      turned = turned_all n waits all c.requires.turned
          ∙ sym (ap (λ (l : List Request). length l) requests_are);
      states = c.requires.states ∙ sym (ap (λ (j : JobView). length (workers_in j)) job_is);
      due = subst (λ (l : List Request). are_fed row l ≡ true) (sym requests_are) fed;
      accepted =
          subst (λ (l : List Request). AreAccepted (job_view made.job)
          (made.judged.accepted ++ map (lifted row) l)) (sym c.requires.pending)
          (subst (λ (l : List Request). AreAccepted (job_view made.job)
          (l ++ map (lifted row) (drop n all))) (sym requests_are)
          (subst (λ (j : JobView). AreAccepted j
          (with_afters waits (take n all) ++ map (lifted row) (drop n all))) (sym job_is)
          (resumed_accepted c.accepted_requests_are_in_order.ensures
          c.accepted_requests_may_wait.ensures
          (job_view setup.job) row n waits all c.requires.turned c.requires.one_each
          c.requires.waits setup.accepted)));
      within =
          subst (λ k. SplitWithin k c.args.pending) (sym splits_are)
          (subst (λ (l : List Request). SplitWithin setup.splits l)
          (sym c.requires.pending) within);
    }

pub returns-clause-asked : goal.returns-clause-asked
returns-clause-asked c =
    let n : ℕ = c.args.start.turned in
    let waits : List ℕ = c.args.waits.now in
    let all : List Request = c.args.setup.judged.accepted in
    let made = c.issued.result in
    let requests_are : made.judged.accepted ≡ with_afters waits (take n all) =
    ap (λ (s : SetupView). s.requests) c.issued.ensures.view
    ∙ ap (λ (b : Begin). with_afters waits (take b.turned all)) c.start.view_is in
    let job_is : job_view made.job ≡ job_view c.args.setup.job =
    ap (λ (s : SetupView). s.job) c.issued.ensures.view in
    subst (λ (l : List Request). AreAsked (job_view made.job) made.judged.accepted l all)
    (sym c.requires.pending)
    (subst (λ (l : List Request). AreAsked (job_view made.job) l (drop n all) all)
    (sym requests_are)
    (subst (λ (j : JobView). AreAsked j (with_afters waits (take n all)) (drop n all) all)
    (sym job_is)
    (resumed_asked (job_view c.args.setup.job) n waits all c.args.setup.accepted)))
