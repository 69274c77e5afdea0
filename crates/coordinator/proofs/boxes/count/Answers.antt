use Rattle.std.proofs.Common.{◌∙◌, ◌+◌, ◌<◌, arith, get_or, length, refl}
use Rattle.std.proofs.lemmas.Option.{slice_get-get_or}
use Rattle.flow_model.specs.Setup.{setup_view}
use Rattle.coordinator.proofs.Asking.{count_next, count_skips, counted_all, counted_step, covers_here, uncounted}
use Rattle.coordinator.proofs.boxes.count.Goals as goal
use Rattle.coordinator.proofs.boxes.count.Goals.{then-covers, else-covers}

pub overflow_add-covered : goal.overflow_add-covered
overflow_add-covered c =
    let k = c.loop-worker.worker in
    let lt : k < length c.loop-worker.covered = omega (arith, c.loop-worker-test.true, c.loop-worker.auto.covered, c.workers-worker-end.ensures.value, c.requires.one_each) in
    let few = c.requires.few k (get_or c.loop-worker.covered k 0) (uncounted (setup_view c.args.setup.now) c.args.request k c.args.covered.now c.loop-worker.covered (get_or c.loop-worker.covered k 0) c.loop-worker.invariant (slice_get-get_or c.loop-worker.covered k 0 lt)) in
    omega (arith, few)

pub loop-worker-preserved : goal.loop-worker-preserved
loop-worker-preserved c =
    let k = c.loop-worker.worker in
    elim c.if-covers.branch [
      | then-covers w ↦
          let lt : k < length c.loop-worker.covered = omega (arith, c.loop-worker-test.true, c.loop-worker.auto.covered, c.workers-worker-end.ensures.value, c.requires.one_each) in
          counted_step (setup_view c.args.setup.now) c.args.request (k + 1) c.args.covered.now _ _ w.covered-is
          (count_next (setup_view c.args.setup.now) c.args.request k c.args.covered.now c.loop-worker.covered (get_or c.loop-worker.covered k 0) (get_or c.loop-worker.covered k 0 + 1) c.loop-worker.invariant
          (slice_get-get_or c.loop-worker.covered k 0 lt) (covers_here (setup_view c.args.setup.now) k c.args.request c.covers.result c.covers.ensures ∙ w.if-covers.true) refl)
      | else-covers w ↦
          counted_step (setup_view c.args.setup.now) c.args.request (k + 1) c.args.covered.now _ _ w.covered-is
          (count_skips (setup_view c.args.setup.now) c.args.request k c.args.covered.now c.loop-worker.covered c.loop-worker.invariant (covers_here (setup_view c.args.setup.now) k c.args.request c.covers.result c.covers.ensures ∙ w.if-covers.false))
    ]

pub returns : goal.returns
returns c = counted_all (setup_view c.args.setup.now) c.args.request c.loop-worker.worker c.args.covered.now c.loop-worker.covered c.loop-worker.invariant
    (omega (arith, c.loop-worker-test.false, c.workers-worker-end.ensures.value, c.requires.one_each))
