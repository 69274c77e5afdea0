use Rattle.std.proofs.Common.{◌≡◌, ◌∙◌, ◌<◌, ◌++◌, ℕ, List, ap, arith, get_or, length, subst, sym, take}
use Rattle.std.specs.List.{flat_map}
use Rattle.std.proofs.lemmas.List.{take_all}
use Rattle.std.proofs.lemmas.Option.{get_or_from_slice_get}
use Rattle.jobs.specs.Job.{job_view}
use Rattle.flow_model.specs.Workers.{workers_in}
use Rattle.audit_restore.specs.Restored.{IsOrder, numbers_at}
use Rattle.audit_restore.proofs.OrderLemmas.{flat_more, is_order}
use Rattle.audit_restore.proofs.order.workers_in_order.Goals as goal

pub loop-place-preserved : goal.loop-place-preserved
loop-place-preserved c =
    let job = job_view c.args.setup.now.job in
    let dag = c.args.setup.now.job.dag in
    let f : ℕ → List ℕ = λ node. numbers_at job node (length (workers_in job)) in
    let i = c.loop-place.place in
    let long = dag.lawful.ordered.long in
    let lt : i < length dag.order = omega (arith, c.loop-place-test.true, c.nodes-place-end.ensures.nodes, long) in
    let here : get_or dag.order i 0 ≡ c.order.result = get_or_from_slice_get dag.order i c.order.result 0 c.order.ensures in
    c.in_ok-push_workers.ensures ∙ (ap (λ (l : List ℕ). l ++ f c.order.result) c.loop-place.invariant
    ∙ (ap (λ (node : ℕ). flat_map f (take i dag.order) ++ f node) (sym here) ∙ sym (flat_more f dag.order i 0 lt)))

pub returns : goal.returns
returns c =
    let job = job_view c.args.setup.now.job in
    let dag = c.args.setup.now.job.dag in
    let f : ℕ → List ℕ = λ node. numbers_at job node (length (workers_in job)) in
    let long = dag.lawful.ordered.long in
    let all : take c.loop-place.place dag.order ≡ dag.order = take_all c.loop-place.place dag.order (omega (arith, c.loop-place-test.false, c.nodes-place-end.ensures.nodes, long)) in
    subst (IsOrder job dag.order) (sym (c.loop-place.invariant ∙ ap (flat_map f) all)) (is_order job dag c.args.setup.now.job.drawn)
