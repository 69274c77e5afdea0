-- What the plans of a setup keep, as the laws of runs use it.
use Rattle.std.proofs.Common.{◌≡◌, ◌≢◌, ◌<◌, ◌≤◌, ◌+◌, ◌-◌, ℕ, zero, suc, ◌∷◌, inl, inr, refl, sym, subst, arith, true, false, Bool, cond, length, filter, Some, None, Option, slice_get}
use Rattle.std.proofs.Math.Bool.{Bool-set}
use Rattle.std.proofs.Math.Nat.{ℕ_set}
use Rattle.std.proofs.Math.Logic.{∥∥₁_elim}
use Rattle.std.proofs.lemmas.Bool.{cases_eq}
use Rattle.std.proofs.lemmas.Option.{slice_get_within}
use Rattle.std.specs.Prelude.{IsTrue}
use Rattle.cover_planner.specs.Cover.{IsCoveredEdge}
use Rattle.cover_planner.specs.Members.{LeadsToAsked}
use Rattle.cover_planner.specs.declared.cover.Plan.{Plan}
use Rattle.cover_planner.proofs.LawLemmas.{IsCoveredEdge-between}
use Rattle.flow_dag.specs.Edges.{HasEdge}
use Rattle.flow_dag.specs.Masks.{Has}
use Rattle.flow_dag.specs.Paths.{IsOrReaches, Reaches}
use Rattle.flow_dag.specs.declared.edge.Edge.{Edge}
use Rattle.flow_dag.proofs.EdgeLemmas.{HasEdge-at}
use Rattle.flow_dag.proofs.MaskLemmas.{has-Has}
use Rattle.flow_dag.proofs.PathLemmas.{IsOrReaches-cases, IsOrReaches-here}
use Rattle.versions.specs.declared.request.Request.{Request}
use Rattle.flow_model.specs.Covers.{asks, covers, covers_edge, heads, holds_asked, holds_edge, holds_node, is_head}
use Rattle.flow_model.specs.SetupView.{SetupView, splits_of}
use Rattle.flow_model.specs.Planned.{IsPlanFor, IsPlanned, copies_at, splits_at}
use Rattle.flow_model.specs.Requests.{changes}
use Rattle.flow_model.specs.Duties.{dues_after, numbers_from}
use Rattle.flow_model.proofs.AskedLemmas.{asked-changed, asked-earlier}
use Rattle.flow_model.proofs.ElementLemmas.{IsIn, filter_in, in_filter}
use Rattle.flow_model.proofs.WorkerLemmas.{item_at}
use Rattle.flow_model.proofs.StoryLemmas.{IsRising}

-- What the laws of runs use of plans. An edge on a way from a covered node to a covered node is covered; so is every asked node, every node
-- that may make pieces of a tuple and from which a path leads to one, every node whose copies come to asked ones along two edges, and every head.
-- Every node that a request changes is asked, and also by later requests where rows and requests have one order.
pub record HasCovers (setup : SetupView) : Type 0 where
  pub edges :
      (r a i : ℕ) (edge : Edge) → slice_get setup.job.edges i ≡ Some edge → covers setup r a ≡ true
      → IsOrReaches (HasEdge setup.job.edges) a edge.from → covers setup r edge.to ≡ true → covers_edge setup r i ≡ true
  pub asked : (r node : ℕ) → asks setup r node ≡ true → covers setup r node ≡ true
  pub changed : (r node : ℕ) → changes setup r node ≡ true → asks setup r node ≡ true
  pub splits :
      (r node to : ℕ) → splits_at setup.job.nodes setup.requests node ≡ true → Reaches (HasEdge setup.job.edges) node to → asks setup r to ≡ true
      → covers setup r node ≡ true
  pub copies :
      (r node a b to into : ℕ) → copies_at setup.job.nodes node ≡ true → a ≢ b
      → HasEdge setup.job.edges node a → IsOrReaches (HasEdge setup.job.edges) a to → asks setup r to ≡ true
      → HasEdge setup.job.edges node b → IsOrReaches (HasEdge setup.job.edges) b into → asks setup r into ≡ true
      → covers setup r node ≡ true
  pub ordered : IsTrue setup.ordered → (s r node : ℕ) → s ≤ r → r ≤ length setup.requests → changes setup s node ≡ true → asks setup r node ≡ true
  pub heads : (r node : ℕ) → is_head setup r node ≡ true → covers setup r node ≡ true
  pub one_each : length setup.plans ≡ length setup.requests

pub plan_for : (setup : SetupView) → IsPlanned setup → (r : ℕ) (plan : Plan) → slice_get setup.plans r ≡ Some plan
    → (request : Request) × (slice_get setup.requests r ≡ Some request) × IsPlanFor setup.job (splits_of setup) request plan
plan_for setup is r plan e =
    let within : r < length setup.plans = slice_get_within setup.plans r plan e in
    let q = item_at setup.requests r (omega (arith, is.one_each)) in
    (q.0, q.1, is.plans r q.0 plan q.1 e)

edges_covered : (setup : SetupView) → IsPlanned setup → (r a i : ℕ) (edge : Edge) → slice_get setup.job.edges i ≡ Some edge → covers setup r a ≡ true
    → IsOrReaches (HasEdge setup.job.edges) a edge.from → covers setup r edge.to ≡ true → covers_edge setup r i ≡ true
edges_covered setup is zero a i edge g c w d = absurd (cc)
edges_covered setup is (suc r) a i edge g c w d = go (slice_get setup.plans r) refl c d
  where
    go : (o : Option Plan) → slice_get setup.plans r ≡ o → holds_node o a ≡ true → holds_node o edge.to ≡ true → holds_edge o i ≡ true
    go None e c d = absurd (cc)
    go (Some plan) e c d =
        let p : IsPlanFor setup.job (splits_of setup) (plan_for setup is r plan e).0 plan = (plan_for setup is r plan e).2 in
        let cover = p.planned.cover in
        let between : IsCoveredEdge (HasEdge setup.job.edges) (Has plan.members) edge.from edge.to =
        IsCoveredEdge-between (HasEdge setup.job.edges) (Has plan.members) a edge.to edge.from edge.to ((cover.nodes a).0 ((has-Has plan.nodes a).0 c))
        ((cover.nodes edge.to).0 ((has-Has plan.nodes edge.to).0 d)) w (HasEdge-at setup.job.edges i edge g) (IsOrReaches-here (HasEdge setup.job.edges) edge.to edge.to refl) in
        (has-Has plan.edges i).1 ((cover.covered i).1 (edge, g, between))

asked_covered : (setup : SetupView) → IsPlanned setup → (r node : ℕ) → asks setup r node ≡ true → covers setup r node ≡ true
asked_covered setup is zero node h = absurd (cc)
asked_covered setup is (suc r) node h = go (slice_get setup.plans r) refl h
  where
    go : (o : Option Plan) → slice_get setup.plans r ≡ o → holds_asked o node ≡ true → holds_node o node ≡ true
    go None e h = absurd (cc)
    go (Some plan) e h =
        let (request, at, p) = plan_for setup is r plan e in
        (has-Has plan.nodes node).1 ((p.planned.cover.nodes node).1 (inl ((p.planned.members node).1 (inl ((has-Has plan.asked node).0 h)))))

splits_covered : (setup : SetupView) → IsPlanned setup → (r node to : ℕ) → splits_at setup.job.nodes setup.requests node ≡ true → Reaches (HasEdge setup.job.edges) node to
    → asks setup r to ≡ true → covers setup r node ≡ true
splits_covered setup is zero node to m l h = absurd (cc)
splits_covered setup is (suc r) node to m l h = go (slice_get setup.plans r) refl h
  where
    go : (o : Option Plan) → slice_get setup.plans r ≡ o → holds_asked o to ≡ true → holds_node o node ≡ true
    go None e h = absurd (cc)
    go (Some plan) e h =
        let (request, at, p) = plan_for setup is r plan e in
        (has-Has plan.nodes node).1 ((p.planned.cover.nodes node).1 (inl ((p.planned.members node).1 (inr (inl (is.splits node m, (to, (has-Has plan.asked to).0 h, l)))))))

-- an edge to a node from which an asked one is reached leads to an asked one
leads_to_asked : (E : ℕ → ℕ → Type 0) (asked : ℕ → Type 0) (a to : ℕ) → IsOrReaches E a to → asked to → LeadsToAsked E asked a
leads_to_asked E asked a to w h =
    elim (IsOrReaches-cases E a to w) [
      | inl e ↦ inl (subst asked (sym e) h)
      | inr r ↦ inr (to, h, r)
    ]

copies_covered : (setup : SetupView) → IsPlanned setup → (r node a b to into : ℕ) → copies_at setup.job.nodes node ≡ true → a ≢ b
    → HasEdge setup.job.edges node a → IsOrReaches (HasEdge setup.job.edges) a to → asks setup r to ≡ true
    → HasEdge setup.job.edges node b → IsOrReaches (HasEdge setup.job.edges) b into → asks setup r into ≡ true → covers setup r node ≡ true
copies_covered setup is zero node a b to into m ne e v h f w k = absurd (cc)
copies_covered setup is (suc r) node a b to into m ne e v h f w k = go (slice_get setup.plans r) refl h k
  where
    go : (o : Option Plan) → slice_get setup.plans r ≡ o → holds_asked o to ≡ true → holds_asked o into ≡ true → holds_node o node ≡ true
    go None q h k = absurd (cc)
    go (Some plan) q h k =
        let (request, at, p) = plan_for setup is r plan q in
        let first = leads_to_asked (HasEdge setup.job.edges) (Has plan.asked) a to v ((has-Has plan.asked to).0 h) in
        let second = leads_to_asked (HasEdge setup.job.edges) (Has plan.asked) b into w ((has-Has plan.asked into).0 k) in
        (has-Has plan.nodes node).1 ((p.planned.cover.nodes node).1 (inl ((p.planned.members node).1 (inr (inr (m, (a, b, ne, (e, first), (f, second))))))))

pub heads_covered : (setup : SetupView) → IsPlanned setup → (r node : ℕ) → is_head setup r node ≡ true → covers setup r node ≡ true
heads_covered setup is zero node h = absurd (cc)
heads_covered setup is (suc r) node h = go (slice_get setup.plans r) refl h
  where
    go : (o : Option Plan) → slice_get setup.plans r ≡ o → heads o node ≡ true → holds_node o node ≡ true
    go None e h = absurd (cc)
    go (Some plan) e h =
        let (request, at, p) = plan_for setup is r plan e in
        (has-Has plan.nodes node).1 ((p.planned.cover.nodes node).1 ((p.planned.cover.heads node).0 ((has-Has plan.heads node).0 h)).0)

-- the tests of what is covered have one answer, whichever witnesses of the plans there are
pub has_covers : (setup : SetupView) → ∥ IsPlanned setup ∥₁ → HasCovers setup
has_covers setup planned = record {
  edges = λ r a i edge g c w d. ∥∥₁_elim planned (Bool-set _ _) (λ is. edges_covered setup is r a i edge g c w d);
  asked = λ r node h. ∥∥₁_elim planned (Bool-set _ _) (λ is. asked_covered setup is r node h);
  changed = λ r node h. ∥∥₁_elim planned (Bool-set _ _) (λ is. asked-changed setup is r node h);
  splits = λ r node to m l h. ∥∥₁_elim planned (Bool-set _ _) (λ is. splits_covered setup is r node to m l h);
  copies = λ r node a b to into m ne e v h f w k. ∥∥₁_elim planned (Bool-set _ _) (λ is. copies_covered setup is r node a b to into m ne e v h f w k);
  ordered = λ o s r node le lt h. ∥∥₁_elim planned (Bool-set _ _) (λ is. asked-earlier setup is o s r node le lt h);
  heads = λ r node h. ∥∥₁_elim planned (Bool-set _ _) (λ is. heads_covered setup is r node h);
  one_each = ∥∥₁_elim planned (ℕ_set _ _) (λ is. is.one_each);
}

-- ---- the requests that cover a node

pub numbers_in : (first count r : ℕ) → first ≤ r → r < first + count
    → IsIn r (numbers_from first count)
numbers_in first zero r le lt = absurd (omega arith)
numbers_in first (suc count) r le lt =
    elim (cases_eq r first) [
      | inl e ↦ inl e
      | inr ne ↦ inr (numbers_in (first + 1) count r (omega arith) (omega arith))
    ]

filter_rises : (test : ℕ → Bool) (k first count : ℕ) → k < first → IsRising k (filter test (numbers_from first count))
filter_rises test k first zero lt = tt
filter_rises test k first (suc count) lt = go (test first) (filter_rises test first (first + 1) count (omega arith)) (filter_rises test k (first + 1) count (omega arith))
  where
    go : (b : Bool) → IsRising first (filter test (numbers_from (first + 1) count)) → IsRising k (filter test (numbers_from (first + 1) count))
        → IsRising k (cond b (first ∷ filter test (numbers_from (first + 1) count)) (filter test (numbers_from (first + 1) count)))
    go true a b = (lt, a)
    go false a b = b

pub dues_rise : (setup : SetupView) (turned node k : ℕ) → k ≤ turned → IsRising k (dues_after setup turned node)
dues_rise setup turned node k le = filter_rises (λ r. covers setup r node) k (turned + 1) (length setup.plans - turned) (omega arith)

pub due_covers : (setup : SetupView) (turned node r : ℕ) → IsIn r (dues_after setup turned node) → covers setup r node ≡ true
due_covers setup turned node r h = (in_filter (λ r. covers setup r node) r (numbers_from (turned + 1) (length setup.plans - turned)) h).1

pub covers_within : (setup : SetupView) (r node : ℕ) → covers setup r node ≡ true → (1 ≤ r) × (r ≤ length setup.plans)
covers_within setup zero node h = absurd (cc)
covers_within setup (suc r) node h = go (slice_get setup.plans r) refl h
  where
    go : (o : Option Plan) → slice_get setup.plans r ≡ o → holds_node o node ≡ true → (1 ≤ suc r) × (suc r ≤ length setup.plans)
    go None e h = absurd (cc)
    go (Some plan) e h = let lt : r < length setup.plans = slice_get_within setup.plans r plan e in (omega arith, omega arith)

-- each request that covers a node is due there at first
pub due_of_cover : (setup : SetupView) (node r : ℕ) → covers setup r node ≡ true → IsIn r (dues_after setup 0 node)
due_of_cover setup node r h =
    let w = covers_within setup r node h in
    filter_in (λ r. covers setup r node) r (numbers_from (0 + 1) (length setup.plans - 0)) (numbers_in (0 + 1) (length setup.plans - 0) r (omega (arith, w.0)) (omega (arith, w.1))) h
