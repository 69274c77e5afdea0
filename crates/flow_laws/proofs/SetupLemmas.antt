-- Two setups of one job, the same requests and one mode are equal.
use Rattle.std.proofs.Common.{◌≡◌, ◌∙◌, ◌<◌, ℕ, Bool, List, All, sym, subst, arith, length, get_or}
use Rattle.std.specs.Prelude.{IsTrue}
use Rattle.std.proofs.lemmas.List.{same_lists}
use Rattle.std.proofs.lemmas.List.Elements.{All-get_or}
use Rattle.std.proofs.lemmas.Option.{slice_get-get_or}
use Rattle.cover_planner.specs.Plan.{IsPlan}
use Rattle.cover_planner.specs.declared.cover.Plan.{Plan}
use Rattle.flow_dag.specs.Masks.{Has}
use Rattle.jobs.specs.JobView.{JobView}
use Rattle.versions.specs.declared.request.Request.{Request}
use Rattle.flow_model.specs.Planned.{ArePlansOf, IsExact, IsPlanOf, copies_at, is_planned, splits_at}
use Rattle.flow_model.specs.SetupView.{SetupView, setup_view_of}
use Rattle.flow_laws.specs.Determined.{HasExactPlans, NumbersAllNodes}
use Rattle.flow_laws.proofs.MaskLemmas.{one_mask}
use Rattle.flow_laws.proofs.PlanLemmas.{one_plan}

-- two plans for the same set are equal
plan_of_set : (job : JobView) (splits : ℕ) (planned : ℕ → Bool) (p q : Plan) → NumbersAllNodes p → NumbersAllNodes q → IsPlanOf job splits planned p → IsPlanOf job splits planned q → p ≡ q
plan_of_set job splits planned p q long also f g =
    let asked : p.asked ≡ q.asked = one_mask (λ node. IsTrue (planned node)) p.asked q.asked f.asked g.asked in
    one_plan job.edges (Has splits) (λ (node : ℕ). IsTrue (copies_at job.nodes node)) p.asked p q long also f.by
    (subst (λ (a : ℕ). IsPlan job.edges (Has splits) (λ (node : ℕ). IsTrue (copies_at job.nodes node)) a q) (sym asked) g.by)

-- so are two lists of plans for the same requests
plans_of_requests : (job : JobView) (splits : ℕ) (ordered : Bool) (requests : List Request) (ps qs : List Plan) → All NumbersAllNodes ps → All NumbersAllNodes qs
    → ArePlansOf job splits ordered requests ps → ArePlansOf job splits ordered requests qs → ps ≡ qs
plans_of_requests job splits ordered requests ps qs long also f g = same_lists ps qs count each
  where
    count : length ps ≡ length qs
    count = f.one_each ∙ sym g.one_each

    each : (k : ℕ) (d : Plan) → k < length ps → get_or ps k d ≡ get_or qs k d
    each k d lt =
        let there : k < length qs = omega (arith, lt, count) in
        plan_of_set job splits (is_planned ordered requests k) (get_or ps k d) (get_or qs k d) (All-get_or NumbersAllNodes ps k d lt long) (All-get_or NumbersAllNodes qs k d there also)
        (f.each k (get_or ps k d) (omega arith) (slice_get-get_or ps k d lt)) (g.each k (get_or qs k d) (omega arith) (slice_get-get_or qs k d there))

setup_of_fields : (s t : SetupView) → s.job ≡ t.job → s.requests ≡ t.requests → s.plans ≡ t.plans → s.splits ≡ t.splits → s.ordered ≡ t.ordered → s ≡ t
setup_of_fields s t j r p m o = λ i. record { job = j i; requests = r i; plans = p i; splits = m i; ordered = o i }

pub one_setup : (s t : SetupView) → s.job ≡ t.job → s.requests ≡ t.requests → s.ordered ≡ t.ordered → HasExactPlans s → HasExactPlans t → s ≡ t
one_setup s t job requests ordered f g =
    let moved : IsExact (setup_view_of s.job s.requests t.plans t.splits s.ordered) =
    subst (λ (o : Bool). IsExact (setup_view_of s.job s.requests t.plans t.splits o)) (sym ordered)
    (subst (λ (r : List Request). IsExact (setup_view_of s.job r t.plans t.splits t.ordered)) (sym requests)
    (subst (λ (j : JobView). IsExact (setup_view_of j t.requests t.plans t.splits t.ordered)) (sym job) g.exact)) in
    let splits : s.splits ≡ t.splits = one_mask (λ node. IsTrue (splits_at s.job.nodes s.requests node)) s.splits t.splits f.exact.splits moved.splits in
    let plans_so : ArePlansOf s.job s.splits s.ordered s.requests t.plans =
    subst (λ (m : ℕ). ArePlansOf s.job m s.ordered s.requests t.plans) (sym splits) moved.plans in
    let plans : s.plans ≡ t.plans = plans_of_requests s.job s.splits s.ordered s.requests s.plans t.plans f.numbers g.numbers f.exact.plans plans_so in
    setup_of_fields s t job requests plans splits ordered
