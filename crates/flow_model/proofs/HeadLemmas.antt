-- No covered edge leads into a head.
use Rattle.std.proofs.Common.{◌≡◌, ◌∙◌, ℕ, zero, suc, true, false, refl, sym, subst, ap, Some, None, Option, slice_get}
use Rattle.std.proofs.Math.Bool.{Bool-set}
use Rattle.std.proofs.Math.Logic.{∥∥₁_elim}
use Rattle.std.proofs.lemmas.Bool.{false_from_ne_true}
use Rattle.std.proofs.lemmas.Option.{same_Some}
use Rattle.cover_planner.specs.Cover.{IsCoveredEdge}
use Rattle.cover_planner.specs.declared.cover.Plan.{Plan}
use Rattle.flow_dag.specs.Edges.{HasEdge}
use Rattle.flow_dag.specs.Masks.{Has}
use Rattle.flow_dag.specs.declared.edge.Edge.{Edge}
use Rattle.flow_dag.proofs.MaskLemmas.{has-Has}
use Rattle.flow_model.specs.Covers.{covers_edge, heads, holds_edge, is_head}
use Rattle.flow_model.specs.SetupView.{SetupView, splits_of}
use Rattle.flow_model.specs.Planned.{IsPlanFor, IsPlanned}
use Rattle.flow_model.proofs.PlannedLemmas.{plan_for}

no_edge : (setup : SetupView) → IsPlanned setup → (r node i : ℕ) (edge : Edge) → is_head setup r node ≡ true → slice_get setup.job.edges i ≡ Some edge → edge.to ≡ node
    → covers_edge setup r i ≡ true → ⊥
no_edge setup is zero node i edge h g to c = cc
no_edge setup is (suc r) node i edge h g to c = go (slice_get setup.plans r) refl h c
  where
    go : (o : Option Plan) → slice_get setup.plans r ≡ o → heads o node ≡ true → holds_edge o i ≡ true → ⊥
    go None e h c = cc
    go (Some plan) e h c =
        let p : IsPlanFor setup.job (splits_of setup) (plan_for setup is r plan e).0 plan = (plan_for setup is r plan e).2 in
        let none = ((p.planned.cover.heads node).0 ((has-Has plan.heads node).0 h)).1 in
        let (found, there, covered) = (p.planned.cover.covered i).0 ((has-Has plan.edges i).0 c) in
        let same : found ≡ edge = same_Some found edge (sym there ∙ g) in
        none found.from (subst (λ n. IsCoveredEdge (HasEdge setup.job.edges) (Has plan.members) found.from n) (ap (λ (x : Edge). x.to) same ∙ to) covered)

pub head_unentered : (setup : SetupView) → ∥ IsPlanned setup ∥₁ → (r node i : ℕ) (edge : Edge) → is_head setup r node ≡ true → slice_get setup.job.edges i ≡ Some edge → edge.to ≡ node
    → covers_edge setup r i ≡ false
head_unentered setup planned r node i edge h g to =
    ∥∥₁_elim planned (Bool-set _ _) (λ is. false_from_ne_true (covers_edge setup r i) (no_edge setup is r node i edge h g to))
