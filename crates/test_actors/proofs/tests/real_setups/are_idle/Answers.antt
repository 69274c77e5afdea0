use Rattle.std.proofs.Common.{ap, arith, length, List}
use Rattle.std.specs.Vec.Iter.{into_iter_items}
use Rattle.flow_model.specs.Setup.{setup_view}
use Rattle.flow_worker.specs.Worker.{WorkerIs}
use Rattle.test_actors.proofs.Crewing.{workers_first, workers_rest}
use Rattle.test_actors.proofs.tests.real_setups.are_idle.Goals as goal

pub is_idle-idle-requires-after_bounds : goal.is_idle-idle-requires-after_bounds
is_idle-idle-requires-after_bounds g c κs within =
    let setup = setup_view c.args.setup.now in
    let its = into_iter_items c.loop-worker.worker-iterator in
    let rest = into_iter_items c.next.new.self in
    workers_first setup its rest c.in-Some.worker c.in-Some.ensures.steps.0 c.loop-worker.invariant.left

pub loop-worker-preserved : goal.loop-worker-preserved
loop-worker-preserved g c =
    let setup = setup_view c.args.setup.now in
    let its = into_iter_items c.loop-worker.worker-iterator in
    let rest = into_iter_items c.next.new.self in
    let next = c.in-Some.ensures.steps in
    record {
      may = tt;
      finite = tt;
      counted = let b = ap (λ (ws : List WorkerIs). length ws) next.0 in omega (arith, next.1, b, c.loop-worker.invariant.counted);
      left = workers_rest setup its rest c.in-Some.worker next.0 c.loop-worker.invariant.left;
    }
