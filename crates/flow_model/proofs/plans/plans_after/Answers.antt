use Rattle.std.proofs.Common.{◌≡◌, ◌∙◌, ◌+◌, ◌<◌, ◌^◌, ◌∷◌, ◌++◌, ◌↔◌, ℕ, Bool, [], take, sym, ap, bit_or, length, subst, List, append_assoc}
use Rattle.std.specs.Prelude.{IsTrue}
use Rattle.std.specs.List.{list_any}
use Rattle.std.proofs.lemmas.List.{append-nil, take_more}
use Rattle.std.proofs.lemmas.Nat.{or_lt}
use Rattle.flow_dag.specs.Masks.{Has}
use Rattle.jobs.specs.Job.{job_view}
use Rattle.versions.specs.Book.{is_named}
use Rattle.versions.specs.declared.request.Request.{Request}
use Rattle.cover_planner.specs.declared.cover.Plan.{Plan}
use Rattle.flow_model.specs.Planned.{ArePlansFrom, copies_at, names_node}
use Rattle.flow_model.proofs.GatheredLemmas.{any_more, either_has, mode_below}
use Rattle.flow_model.proofs.PlanLemmas.{ArePlansFrom-none, ArePlansFrom-push, IsPlanOf-plan}
use Rattle.flow_model.proofs.plans.plans_after.Goals as goal

pub plan-requires-clause-asked : goal.plan-requires-clause-asked
plan-requires-clause-asked c =
    let n : ℕ = length c.args.job.now.nodes in
    let changed = c.changed-changed.result in
    let count : c.nodes-in-loop-request.result ≡ n = c.nodes-in-loop-request.ensures.nodes ∙ c.args.job.now.drawn in
    let low : changed < 2 ^ n = subst (λ k. changed < 2 ^ k) count c.changed-changed.ensures.below in
    let all : bit_or c.loop-request.so_far changed < 2 ^ n = or_lt n c.loop-request.so_far changed c.loop-request.invariant.below low in
    subst (λ k. c.planned-asked.result < 2 ^ k) (sym c.args.job.now.drawn)
    (subst (λ v. v < 2 ^ n) (sym c.planned-asked.ensures) (mode_below c.args.ordered (bit_or c.loop-request.so_far changed) changed (2 ^ n) all low))

pub loop-request-init : goal.loop-request-init
loop-request-init c =
    let n : ℕ = length c.args.job.now.nodes in
    let count : c.nodes.result ≡ n = c.nodes.ensures.nodes ∙ c.args.job.now.drawn in
    let earlier : List Request = c.args.earlier.now in
    let same : earlier ++ [] ≡ earlier = append-nil earlier in
    rw c.new-plans.ensures record {
      plans = λ old e.
          subst (λ (l : List Request). ArePlansFrom (length earlier) (job_view c.args.job.now) c.args.splits c.args.ordered l (old ++ [])) (sym same)
          (subst (λ (l : List Plan). ArePlansFrom (length earlier) (job_view c.args.job.now) c.args.splits c.args.ordered earlier l) (sym (append-nil old))
          (ArePlansFrom-none (job_view c.args.job.now) c.args.splits c.args.ordered earlier old e));
      has = λ node. subst (λ (l : List Request). Has c.changed_by-so_far.result node ↔ IsTrue (list_any (names_node node) l)) (sym same) (c.changed_by-so_far.ensures.has node);
      below = subst (λ k. c.changed_by-so_far.result < 2 ^ k) count c.changed_by-so_far.ensures.below;
    }

pub loop-request-preserved : goal.loop-request-preserved
loop-request-preserved c =
    let list = c.args.later.now in
    let i = c.loop-request.request-index in
    let r : Request = c.request-item.result in
    let n : ℕ = length c.args.job.now.nodes in
    let earlier = c.args.earlier.now in
    let before : List Request = earlier ++ take i list in
    let so_far = c.loop-request.so_far in
    let changed = c.changed-changed.result in
    let more : take (i + 1) list ≡ take i list ++ r ∷ [] = take_more list i r c.loop-request-test.true ∙ ap (λ (x : Request). take i list ++ x ∷ []) (sym c.request-item.is) in
    let next : earlier ++ take (i + 1) list ≡ before ++ r ∷ [] = ap (λ (l : List Request). earlier ++ l) more ∙ sym (append_assoc earlier (take i list) (r ∷ [])) in
    let count : c.nodes-in-loop-request.result ≡ n = c.nodes-in-loop-request.ensures.nodes ∙ c.args.job.now.drawn in
    let low : changed < 2 ^ n = subst (λ k. changed < 2 ^ k) count c.changed-changed.ensures.below in
    let copies : (node : ℕ) → Has c.copies-copies.result node ↔ IsTrue (copies_at c.args.job.now.nodes node) = rw c.as_slice.ensures at c.copies-copies.ensures.has in
    let own : (node : ℕ) → Has changed node ↔ IsTrue (is_named r.changes node) = rw c.as_slice-in-loop-request.ensures at c.changed-changed.ensures.has in
    let all : (node : ℕ) → Has (bit_or so_far changed) node ↔ IsTrue (list_any (names_node node) (before ++ r ∷ [])) =
    λ node.
    subst (λ (b : Bool). Has (bit_or so_far changed) node ↔ IsTrue b) (sym (any_more (names_node node) before r))
    (either_has so_far changed node (list_any (names_node node) before) (names_node node r) (c.loop-request.invariant.has node) (own node)) in
    rw (next, c.in_ok-push.ensures.ok) record {
      plans = λ old e.
          let pushed = ArePlansFrom-push (length earlier) (job_view c.args.job.now) c.args.splits c.args.ordered before (old ++ c.loop-request.plans) r c.plan.result (c.loop-request.invariant.plans old e)
          (IsPlanOf-plan (job_view c.args.job.now) c.args.splits c.copies-copies.result c.planned-asked.result (bit_or so_far changed) changed c.args.ordered before r c.plan.result
          copies c.plan.ensures.plan c.planned-asked.ensures all own) in
          rw (← append_assoc old c.loop-request.plans (c.plan.result ∷ [])) pushed;
      has = all;
      below = or_lt n so_far changed c.loop-request.invariant.below low;
    }
