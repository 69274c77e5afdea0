use Rattle.std.proofs.Common.{ℕ, refl}
use Rattle.flow_model.specs.declared.topology.WorkerAt.{WorkerAt}
use Rattle.flow_model.proofs.TopologyLemmas.{pushed-range}
use Rattle.flow_model.proofs.tables.push_workers.Goals as goal

pub loop-place-preserved : goal.loop-place-preserved
loop-place-preserved c =
    let worker : ℕ → WorkerAt = λ place. record { node = c.args.node; place = place } in
    pushed-range worker c.args.workers.now c.loop-place.workers c.push.new.self c.loop-place.place (worker c.loop-place.place) c.loop-place.invariant c.in_ok-push.ensures.ok refl
