-- What the plans of a setup cover: covered edges have covered ends, and none leaves a source.
use Rattle.std.proofs.Common.{◌≡◌, ◌<◌, ◌⊎◌, ℕ, zero, suc, List, [], ◌∷◌, inl, inr, true, false, get_or, length, Option, Some, None, refl, sym, ap, subst, ◌∙◌, arith}
use Rattle.std.specs.Prelude.{slice_get}
use Rattle.std.proofs.Math.Bool.{Bool-set}
use Rattle.std.proofs.Math.Logic.{∥∥₁_elim}
use Rattle.std.proofs.Math.Nat.{ℕ_set}
use Rattle.std.proofs.lemmas.Bool.{false_from_ne_true}
use Rattle.std.proofs.lemmas.Option.{same_Some, slice_get-get_or, slice_get_within}
use Rattle.flow_dag.specs.declared.edge.Edge.{Edge}
use Rattle.flow_dag.specs.Edges.{HasEdge}
use Rattle.flow_dag.specs.Masks.{Has}
use Rattle.flow_dag.specs.Paths.{IsWalk, Leads}
use Rattle.flow_dag.proofs.EdgeLemmas.{HasEdge-place}
use Rattle.flow_dag.proofs.MaskLemmas.{has-Has}
use Rattle.cover_planner.specs.declared.cover.Plan.{Plan}
use Rattle.cover_planner.specs.Cover.{IsCoveredEdge, LiesOn, StandNext}
use Rattle.jobs.specs.Law.{IsLawful}
use Rattle.jobs.specs.Nodes.{is_source_node}
use Rattle.jobs.specs.JobView.{JobView}
use Rattle.versions.specs.declared.request.Request.{Request}
use Rattle.flow_model.specs.Covers.{covers, covers_edge, holds_edge}
use Rattle.flow_model.specs.Lanes.{lanes_in}
use Rattle.flow_model.specs.SetupView.{SetupView}
use Rattle.flow_model.specs.Planned.{IsPlanFor, IsPlanned}
use Rattle.flow_model.specs.Workers.{nth_worker, workers_in}
use Rattle.flow_model.proofs.AgreementLemmas.{has_covers_node}
use Rattle.flow_model.proofs.ElementLemmas.{IsIn, in_of_place}
use Rattle.flow_model.proofs.JobLemmas.{reached_worker, unentered}
use Rattle.flow_model.proofs.WorkerPlaces.{get-nth_worker, worker_at}

-- ---- paths

walk_start : (E : ℕ → ℕ → Type 0) (a b x : ℕ) (rest : List ℕ) → IsWalk E x rest → StandNext a b x rest → (x ≡ a) ⊎ ((c : ℕ) × E c a)
walk_start E a b x [] walk stands = absurd stands
walk_start E a b x (y ∷ rest) walk (inl here) = inl here.0
walk_start E a b x (y ∷ rest) walk (inr later) = elim (walk_start E a b y rest walk.1 later) [
  | inl same ↦ inr (x, subst (E x) same walk.0)
  | inr before ↦ inr before
]

-- a node from which an edge of a path leads is the first one, or an edge leads to it
path_start : (E : ℕ → ℕ → Type 0) (a b from to : ℕ) (path : List ℕ) → Leads E from to path → LiesOn a b path → (from ≡ a) ⊎ ((c : ℕ) × E c a)
path_start E a b from to [] leads lies = absurd leads
path_start E a b from to (x ∷ []) leads lies = absurd leads
path_start E a b from to (x ∷ y ∷ rest) leads lies = elim (walk_start E a b x (y ∷ rest) leads.0 lies) [
  | inl same ↦ inl (sym leads.1 ∙ same)
  | inr before ↦ inr before
]

-- ---- covered edges

-- the plan of a request that covers an edge
pub record IsCoveredBy (setup : SetupView) (r i : ℕ) (edge : Edge) : Type 0 where
  pub place : ℕ
  pub number : r ≡ suc place
  pub plan : Plan
  pub plan_is : slice_get setup.plans place ≡ Some plan
  pub covered : IsCoveredEdge (HasEdge setup.job.edges) (Has plan.members) edge.from edge.to
  pub request : Request
  pub planned : IsPlanFor setup.job setup.splits request plan

covered_by : (setup : SetupView) (r i : ℕ) (edge : Edge) → IsPlanned setup → slice_get setup.job.edges i ≡ Some edge → covers_edge setup r i ≡ true → IsCoveredBy setup r i edge
covered_by setup zero i edge is e h = absurd (cc)
covered_by setup (suc p) i edge is e h = go (slice_get setup.plans p) refl h
  where
    go : (o : Option Plan) → slice_get setup.plans p ≡ o → holds_edge o i ≡ true → IsCoveredBy setup (suc p) i edge
    go None g t = absurd (cc)
    go (Some plan) g t =
        let within : p < length setup.requests = let w = slice_get_within setup.plans p plan g in omega (arith, w, is.one_each) in
        let nothing : Request = record { after = 0; changes = [] } in
        let there = slice_get-get_or setup.requests p nothing within in
        let for = is.plans p (get_or setup.requests p nothing) plan there g in
        let found = (for.planned.cover.covered i).0 ((has-Has plan.edges i).0 t) in
        let same : found.0 ≡ edge = same_Some found.0 edge (sym found.1 ∙ e) in
        record {
          place = p;
          number = refl;
          plan = plan;
          plan_is = g;
          covered = subst (λ (x : Edge). IsCoveredEdge (HasEdge setup.job.edges) (Has plan.members) x.from x.to) same found.2;
          request = get_or setup.requests p nothing;
          planned = for;
        }

covers_from : (setup : SetupView) (r i : ℕ) (edge : Edge) → IsPlanned setup → slice_get setup.job.edges i ≡ Some edge → covers_edge setup r i ≡ true → covers setup r edge.from ≡ true
covers_from setup r i edge is e h =
    let by = covered_by setup r i edge is e h in
    let has : Has by.plan.nodes edge.from = (by.planned.planned.cover.nodes edge.from).1 (inr (edge.to, inl by.covered)) in
    ap (λ (k : ℕ). covers setup k edge.from) by.number ∙ has_covers_node setup (suc by.place) edge.from by.plan by.plan_is has

covers_to : (setup : SetupView) (r i : ℕ) (edge : Edge) → IsPlanned setup → slice_get setup.job.edges i ≡ Some edge → covers_edge setup r i ≡ true → covers setup r edge.to ≡ true
covers_to setup r i edge is e h =
    let by = covered_by setup r i edge is e h in
    let has : Has by.plan.nodes edge.to = (by.planned.planned.cover.nodes edge.to).1 (inr (edge.from, inr by.covered)) in
    ap (λ (k : ℕ). covers setup k edge.to) by.number ∙ has_covers_node setup (suc by.place) edge.to by.plan by.plan_is has

-- a node into which an edge leads isn't a source
entered_node : (job : JobView) (c a : ℕ) → IsLawful job → HasEdge job.edges c a → is_source_node (slice_get job.nodes a) ≡ false
entered_node job c a law h =
    let (i, edge, e, joins) = HasEdge-place job.edges c a h in
    ap (λ (n : ℕ). is_source_node (slice_get job.nodes n)) (sym joins.1) ∙ unentered job law i edge e

source_uncovered : (setup : SetupView) (r i : ℕ) (edge : Edge) → IsLawful setup.job → IsPlanned setup → slice_get setup.job.edges i ≡ Some edge → is_source_node (slice_get setup.job.nodes edge.from) ≡ true
    → covers_edge setup r i ≡ false
source_uncovered setup r i edge law is e source = false_from_ne_true (covers_edge setup r i) (λ h. wrong (covered_by setup r i edge is e h))
  where
    wrong : IsCoveredBy setup r i edge → ⊥
    wrong by =
        let (from, to, path, member, last, leads, lies) = by.covered in
        elim (path_start (HasEdge setup.job.edges) edge.from edge.to from to path leads lies) [
          | inl same ↦ is.no_source by.place edge.from by.plan by.plan_is source (subst (Has by.plan.members) same member)
          | inr before ↦ let no = entered_node setup.job before.0 edge.from law before.1 in absurd (let clash : true ≡ false = sym source ∙ no in cc)
        ]

-- ---- what plans and lanes give

-- covered edges have covered ends, and none leaves a source; each worker has a lane in; each request has its plan
pub record AreCovering (setup : SetupView) : Type 0 where
  pub from : (r i : ℕ) (edge : Edge) → slice_get setup.job.edges i ≡ Some edge → covers_edge setup r i ≡ true → covers setup r edge.from ≡ true
  pub to : (r i : ℕ) (edge : Edge) → slice_get setup.job.edges i ≡ Some edge → covers_edge setup r i ≡ true → covers setup r edge.to ≡ true
  pub no_source : (r i : ℕ) (edge : Edge) → slice_get setup.job.edges i ≡ Some edge → is_source_node (slice_get setup.job.nodes edge.from) ≡ true → covers_edge setup r i ≡ false
  pub reached : (w : ℕ) → w < length (workers_in setup.job) → (n : ℕ) × IsIn n (lanes_in setup.job w)
  pub plan_each : length setup.plans ≡ length setup.requests

-- a lane leads into every worker
lane_into : (job : JobView) (w : ℕ) → IsLawful job → w < length (workers_in job) → (n : ℕ) × IsIn n (lanes_in job w)
lane_into job w law lt =
    let (number, is) = worker_at job w lt in
    let (n, among) = reached_worker job law (nth_worker job w) is (in_of_place (nth_worker job w) (workers_in job) w (get-nth_worker job w lt)) in
    (n, subst (λ (v : ℕ). IsIn n (lanes_in job v)) number among)

pub covering : (setup : SetupView) → IsLawful setup.job → ∥ IsPlanned setup ∥₁ → AreCovering setup
covering setup law planned = record {
  from = λ r i edge e h. ∥∥₁_elim planned (Bool-set _ _) (λ is. covers_from setup r i edge is e h);
  to = λ r i edge e h. ∥∥₁_elim planned (Bool-set _ _) (λ is. covers_to setup r i edge is e h);
  no_source = λ r i edge e h. ∥∥₁_elim planned (Bool-set _ _) (λ is. source_uncovered setup r i edge law is e h);
  reached = λ w lt. lane_into setup.job w law lt;
  plan_each = ∥∥₁_elim planned (ℕ_set _ _) (λ is. is.one_each);
}
