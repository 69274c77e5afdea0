use Rattle.std.proofs.Common.{◌≡◌, ◌∙◌, ◌++◌, List, [], ap, true, length, map, refl, subst, sym}
use Rattle.std.specs.Prelude.{slice_get}
use Rattle.std.proofs.Math.Nat.{ℕ_set}
use Rattle.std.proofs.Math.Logic.{∥∥₁_elim}
use Rattle.jobs.specs.Job.{job_view}
use Rattle.versions.specs.Judged.{AreAccepted}
use Rattle.versions.specs.declared.request.Request.{Request}
use Rattle.flow_model.specs.Begin.{Begin, at_first}
use Rattle.flow_model.specs.Planned.{is_made_split, is_split_node}
use Rattle.flow_model.specs.Setup.{setup_view}
use Rattle.flow_model.specs.SetupView.{SetupView}
use Rattle.flow_model.specs.Workers.{workers_in}
use Rattle.flow_model.proofs.StartLemmas.{states_first}
use Rattle.stream_step.specs.Pending.{SplitWithin, lifted}
use Rattle.stream_step.proofs.PendingLemmas.{are_fed, lifted_first, or_right}
use Rattle.stream_step.proofs.stream.Stream.begin.Goals as goal

pub invariant_of-result : goal.invariant_of-result
invariant_of-result c =
    let setup = c.in_ok-setup.setup in
    let cut = c.first_of.result in
    let none : cut.judged.accepted ≡ [] =
    ap (λ (s : SetupView). s.requests) c.first_of.ensures.cut in
    let job_is : job_view cut.job ≡ job_view setup.job = ap job_view c.first_of.ensures.job in
    let splits_are : cut.splits ≡ setup.splits =
    ap (λ (s : SetupView). s.splits) c.first_of.ensures.cut in
    let start = c.in_ok-start.start in
    let first : start ≡ at_first (setup_view setup) = c.in_ok-start.ensures in
    let pending_is : c.in_ok-pending.pending ≡ setup.judged.accepted =
    c.in_ok-pending.ensures ∙ c.as_slice.ensures in
    let within : SplitWithin setup.splits setup.judged.accepted =
    λ node made. ∥∥₁_elim setup.planned (ℕ_set _ _)
    (λ is. is.splits node (or_right (is_split_node (slice_get setup.job.nodes node))
    (is_made_split setup.judged.accepted node) made)) in
    record {
      turned = ap (λ (b : Begin). b.turned) first ∙ sym (ap (λ (l : List Request). length l) none);
      states = ap (λ (b : Begin). length b.states) first
          ∙ (states_first (setup_view setup) ∙ sym (ap (λ j. length (workers_in j)) job_is));
      due = subst (λ (l : List Request). are_fed start.row l ≡ true) (sym none) refl;
      accepted =
          subst (λ (l : List Request). AreAccepted (job_view cut.job)
          (l ++ map (lifted start.row) c.in_ok-pending.pending)) (sym none)
          (subst (λ k. AreAccepted (job_view cut.job) (map (lifted k) c.in_ok-pending.pending))
          (sym (ap (λ (b : Begin). b.row) first))
          (subst (λ (l : List Request). AreAccepted (job_view cut.job) l)
          (sym (lifted_first c.in_ok-pending.pending))
          (subst (λ (l : List Request). AreAccepted (job_view cut.job) l) (sym pending_is)
          (subst (λ j. AreAccepted j setup.judged.accepted) (sym job_is) setup.accepted))));
      within =
          subst (λ k. SplitWithin k c.in_ok-pending.pending) (sym splits_are)
          (subst (λ (l : List Request). SplitWithin setup.splits l) (sym pending_is) within);
    }
