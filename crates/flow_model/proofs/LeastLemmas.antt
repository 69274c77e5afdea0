-- The plans of a setup are least.
use Rattle.std.proofs.Common.{◌≡◌, ℕ, zero, suc, Some}
use Rattle.std.proofs.Math.Bool.{Bool-set}
use Rattle.std.proofs.Math.Nat.{ℕ_set}
use Rattle.std.proofs.Math.Logic.{∥∥₁_elim}
use Rattle.cover_planner.specs.Plan.{IsCover, IsLeast, HasAllPaths}
use Rattle.cover_planner.specs.declared.cover.Plan.{Plan}
use Rattle.cover_planner.proofs.LawLemmas.{HasAllPaths-cover, IsLeast-cover}
use Rattle.flow_model.specs.SetupView.{SetupView}
use Rattle.flow_model.specs.Covers.{plan_of}
use Rattle.flow_model.specs.Least.{ArePlansLeast}
use Rattle.flow_model.specs.Planned.{IsPlanned}
use Rattle.flow_model.proofs.PlannedLemmas.{plan_for}

covered : (setup : SetupView) → IsPlanned setup → (request : ℕ) (plan : Plan) → plan_of setup request ≡ Some plan → IsCover setup.job.edges plan
covered setup is zero plan e = absurd (cc)
covered setup is (suc r) plan e = let (request, at, p) = plan_for setup is r plan e in p.planned.cover

-- bits and tests have one answer, whichever witnesses of the plans there are
pub plans_least : (setup : SetupView) → ∥ IsPlanned setup ∥₁ → ArePlansLeast setup
plans_least setup planned request plan e = record {
  paths = record {
    members = λ a m. ∥∥₁_elim planned (ℕ_set _ _) (λ is. (paths is).members a m);
    paths = λ from to path m n leads i edge at lies. (
      ∥∥₁_elim planned (ℕ_set _ _) (λ is. ((paths is).paths from to path m n leads i edge at lies).0),
      ∥∥₁_elim planned (ℕ_set _ _) (λ is. ((paths is).paths from to path m n leads i edge at lies).1),
      ∥∥₁_elim planned (ℕ_set _ _) (λ is. ((paths is).paths from to path m n leads i edge at lies).2),
    );
  };
  least = λ node edge hold. (
    λ a h. ∥∥₁_elim planned (Bool-set _ _) (λ is. (least is node edge hold).0 a h),
    λ i x at h. ∥∥₁_elim planned (Bool-set _ _) (λ is. (least is node edge hold).1 i x at h),
  );
}
  where
    paths : IsPlanned setup → HasAllPaths setup.job.edges plan
    paths is = HasAllPaths-cover setup.job.edges plan (covered setup is request plan e)

    least : IsPlanned setup → IsLeast setup.job.edges plan
    least is = IsLeast-cover setup.job.edges plan (covered setup is request plan e)
