use Rattle.std.proofs.Common.{◌++◌, List, length, subst, sym}
use Rattle.std.proofs.Math.Logic.{∥∥₁_map}
use Rattle.cover_planner.specs.declared.cover.Plan.{Plan}
use Rattle.jobs.specs.Job.{job_view}
use Rattle.versions.specs.Judged.{AreAccepted}
use Rattle.versions.specs.declared.request.Request.{Request}
use Rattle.flow_model.specs.SetupView.{setup_view_of}
use Rattle.flow_model.specs.Planned.{ArePlansFrom, IsPlanned}
use Rattle.flow_model.specs.Setup.{setup_view}
use Rattle.flow_model.proofs.PlanLemmas.{IsPlanned-followed}
use Rattle.flow_model.proofs.setup.Setup.follow.Goals as goal

pub invariant_of-result : goal.invariant_of-result
invariant_of-result c =
    let self = c.args.self in
    let job = job_view self.job in
    let later = c.args.later.accepted in
    let all = self.judged.accepted ++ later in
    let are : ArePlansFrom (length self.judged.accepted) job self.splits self.ordered all (self.plans ++ c.in_ok-plans.plans) = rw c.as_slice.ensures at c.in_ok-plans.ensures in
    let kept = c.accepted_requests_keep_kinds.ensures job all c.requires.accepted in
    record {
      topology_is = self.topology_is;
      accepted = subst (λ (rs : List Request). AreAccepted job rs) (sym c.in_ok-appended.ensures) c.requires.accepted;
      planned = ∥∥₁_map self.planned (λ is.
          subst (λ (rs : List Request). IsPlanned (setup_view_of job rs c.in_ok-all_plans.all_plans self.splits self.ordered)) (sym c.in_ok-appended.ensures)
          (subst (λ (ps : List Plan). IsPlanned (setup_view_of job all ps self.splits self.ordered)) (sym c.in_ok-all_plans.ensures)
          (IsPlanned-followed (setup_view self) later c.in_ok-plans.plans is kept c.requires.splits are)));
    }
