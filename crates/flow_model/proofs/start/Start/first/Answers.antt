use Rattle.std.proofs.Common.{arith, ◌∙◌, ◌<◌, ◌≤◌, ◌++◌, [], ◌∷◌, List, ap, sym, subst, length, take}
use Rattle.jobs.specs.Job.{job_view}
use Rattle.keyed_state.specs.Counts.{Counts}
use Rattle.flow_model.specs.declared.topology.Topology.{Topology}
use Rattle.flow_model.specs.declared.topology.WorkerAt.{WorkerAt}
use Rattle.flow_model.proofs.StartLemmas.{uncounted, uncounted-more, uncounted-all}
use Rattle.flow_model.proofs.start.Start.first.Goals as goal

pub loop-worker-preserved : goal.loop-worker-preserved
loop-worker-preserved c =
    let workers : List WorkerAt = c.args.setup.now.topology.workers in
    let i = c.loop-worker._worker-index in
    let below : i < length workers =
    subst (λ (all : List WorkerAt). i < length all) c.as_slice-worker-items.ensures c.loop-worker-test.true in
    c.in_ok-push.ensures.ok
    ∙ ap (λ (states : List Counts). states ++ c.new.result ∷ []) c.loop-worker.invariant
    ∙ ap (λ (counts : Counts). uncounted (take i workers) ++ counts ∷ []) c.new.ensures
    ∙ sym (uncounted-more workers i below)

pub returns : goal.returns
returns c =
    let workers : List WorkerAt = c.args.setup.now.topology.workers in
    let i = c.loop-worker._worker-index in
    let past : length workers ≤ i = omega (arith, c.loop-worker-test.false, ap length c.as_slice-worker-items.ensures) in
    let is = ap (λ (t : Topology). t.workers) c.args.setup.now.topology_is in
    ap (λ (states : List Counts). record { row = 0; turned = 0; states = states })
    (c.loop-worker.invariant ∙ uncounted-all (job_view c.args.setup.now.job) workers i is past)
