use Rattle.std.proofs.Common.{◌≡◌, ◌∙◌, ◌≤◌, List, ap, arith, length, subst, sym, take}
use Rattle.std.proofs.Math.Logic.{∥∥₁_map}
use Rattle.std.proofs.lemmas.List.{length-take-le}
use Rattle.cover_planner.specs.declared.cover.Plan.{Plan}
use Rattle.jobs.specs.Job.{job_view}
use Rattle.versions.specs.Judged.{AreAccepted}
use Rattle.versions.specs.declared.request.Request.{Request}
use Rattle.flow_model.specs.Planned.{IsPlanned}
use Rattle.flow_model.specs.Setup.{setup_view}
use Rattle.flow_model.specs.SetupView.{setup_view_of}
use Rattle.flow_model.proofs.PlannedLemmas.{has_covers}
use Rattle.savepoint.proofs.CutLemmas.{AreAccepted-take, IsPlanned-first_of}
use Rattle.stream_replay.specs.inner.Progress.{with_all}
use Rattle.stream_replay.proofs.setups.with_first.Goals as goal

pub slice_bounds-from_slice-end : goal.slice_bounds-from_slice-end
slice_bounds-from_slice-end c =
    let whole = c.args.whole.now in
    let view = with_all whole (setup_view c.args.setup) in
    let each : length whole.plans ≡ length whole.requests =
    (has_covers view c.requires.of_whole.planned).one_each in
    let plans : length c.as_slice-2.result.now ≡ length whole.plans =
    ap (λ (l : List Plan). length l) c.as_slice-2.ensures in
    let few : c.args.count ≤ length c.as_slice-2.result.now =
    omega (arith, each, plans, c.requires.there) in
    sym (length-take-le c.args.count c.as_slice-2.result.now few)

pub invariant_of-result : goal.invariant_of-result
invariant_of-result c =
    let setup = c.args.setup in
    let whole = c.args.whole.now in
    let count = c.args.count in
    let job = job_view setup.job in
    let accepted_is : c.in_ok-accepted.accepted ≡ take count whole.requests =
    c.in_ok-accepted.ensures ∙ ap (λ (l : List Request). take count l) c.as_slice.ensures in
    let plans_are : c.in_ok-plans.plans ≡ take count whole.plans =
    c.in_ok-plans.ensures ∙ ap (λ (l : List Plan). take count l) c.as_slice-2.ensures in
    record {
      topology_is = setup.topology_is;
      accepted =
          subst (λ (l : List Request). AreAccepted job l) (sym accepted_is)
          (AreAccepted-take job count whole.requests c.requires.of_whole.accepted);
      planned = ∥∥₁_map c.requires.of_whole.planned (λ is.
          subst (λ (plans : List Plan). IsPlanned (setup_view_of job c.in_ok-accepted.accepted
          plans setup.splits setup.ordered)) (sym plans_are)
          (subst (λ (l : List Request). IsPlanned (setup_view_of job l (take count whole.plans)
          setup.splits setup.ordered)) (sym accepted_is)
          (IsPlanned-first_of (with_all whole (setup_view setup)) count is)));
    }
