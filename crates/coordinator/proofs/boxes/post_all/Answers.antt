use Rattle.std.proofs.Common.{◌∙◌, ◌+◌, ◌<◌, arith, get_or, length}
use Rattle.std.proofs.lemmas.Option.{slice_get-get_or}
use Rattle.flow_model.specs.Setup.{setup_view}
use Rattle.coordinator.proofs.Asking.{heads_here, post_next, post_skips, posted_all, posted_boxes, posted_loads, stepped, unposted}
use Rattle.coordinator.proofs.boxes.post_all.Goals as goal
use Rattle.coordinator.proofs.boxes.post_all.Goals.{then-is_head, else-is_head}

pub post-requires-clause-ready : goal.post-requires-clause-ready
post-requires-clause-ready c =
    let k = c.loop-worker.worker in
    let x = get_or c.loop-worker.posters k c.index-posters-worker.result in
    let lt : k < length c.loop-worker.posters = omega (arith, c.loop-worker-test.true, c.loop-worker.auto.posters, c.workers-worker-end.ensures.value, c.requires.boxes) in
    let lt' : k < length c.args.covered.now = omega (arith, lt, c.loop-worker.auto.posters, c.requires.one_each) in
    (c.requires.ready k (get_or c.args.covered.now k 0) x (heads_here (setup_view c.args.setup.now) k c.args.request c.is_head.result c.is_head.ensures ∙ c.if-is_head.true) (slice_get-get_or c.args.covered.now k 0 lt')
    (unposted (setup_view c.args.setup.now) c.args.request c.args.covered.now k c.args.posters.now c.loop-worker.posters x c.loop-worker.invariant (slice_get-get_or c.loop-worker.posters k c.index-posters-worker.result lt))).0

pub post-requires-clause-above : goal.post-requires-clause-above
post-requires-clause-above c =
    let k = c.loop-worker.worker in
    let x = get_or c.loop-worker.posters k c.index-posters-worker.result in
    let lt : k < length c.loop-worker.posters = omega (arith, c.loop-worker-test.true, c.loop-worker.auto.posters, c.workers-worker-end.ensures.value, c.requires.boxes) in
    let lt' : k < length c.args.covered.now = omega (arith, lt, c.loop-worker.auto.posters, c.requires.one_each) in
    (c.requires.ready k (get_or c.args.covered.now k 0) x (heads_here (setup_view c.args.setup.now) k c.args.request c.is_head.result c.is_head.ensures ∙ c.if-is_head.true) (slice_get-get_or c.args.covered.now k 0 lt')
    (unposted (setup_view c.args.setup.now) c.args.request c.args.covered.now k c.args.posters.now c.loop-worker.posters x c.loop-worker.invariant (slice_get-get_or c.loop-worker.posters k c.index-posters-worker.result lt))).1

pub loop-worker-preserved : goal.loop-worker-preserved
loop-worker-preserved c =
    let k = c.loop-worker.worker in
    elim c.if-is_head.branch [
      | then-is_head w ↦
          let x = get_or c.loop-worker.posters k w.index-posters-worker.result in
          let lt : k < length c.loop-worker.posters = omega (arith, c.loop-worker-test.true, c.loop-worker.auto.posters, c.workers-worker-end.ensures.value, c.requires.boxes) in
          let lt' : k < length c.args.covered.now = omega (arith, lt, c.loop-worker.auto.posters, c.requires.one_each) in
          stepped (setup_view c.args.setup.now) c.args.request c.args.covered.now (k + 1) c.args.posters.now _ _ w.posters-is
          (post_next (setup_view c.args.setup.now) c.args.request c.args.covered.now k (get_or c.args.covered.now k 0) c.args.posters.now c.loop-worker.posters x w.post.new.self c.loop-worker.invariant
          (slice_get-get_or c.loop-worker.posters k w.index-posters-worker.result lt) (slice_get-get_or c.args.covered.now k 0 lt') (heads_here (setup_view c.args.setup.now) k c.args.request c.is_head.result c.is_head.ensures ∙ w.if-is_head.true)
          w.post.ensures.same.0 w.post.ensures.same.1 w.post.ensures.posted)
      | else-is_head w ↦
          stepped (setup_view c.args.setup.now) c.args.request c.args.covered.now (k + 1) c.args.posters.now _ _ w.posters-is
          (post_skips (setup_view c.args.setup.now) c.args.request c.args.covered.now k c.args.posters.now c.loop-worker.posters c.loop-worker.invariant (heads_here (setup_view c.args.setup.now) k c.args.request c.is_head.result c.is_head.ensures ∙ w.if-is_head.false))
    ]

pub returns-clause-boxes : goal.returns-clause-boxes
returns-clause-boxes c = posted_boxes (setup_view c.args.setup.now) c.args.request c.args.covered.now c.loop-worker.worker c.args.posters.now c.loop-worker.posters c.loop-worker.invariant

pub returns-clause-loads : goal.returns-clause-loads
returns-clause-loads c = posted_loads (setup_view c.args.setup.now) c.args.request c.args.covered.now c.loop-worker.worker c.args.posters.now c.loop-worker.posters c.loop-worker.invariant

pub returns-clause-posted : goal.returns-clause-posted
returns-clause-posted c = posted_all (setup_view c.args.setup.now) c.args.request c.args.covered.now c.loop-worker.worker c.args.posters.now c.loop-worker.posters c.loop-worker.invariant
    (omega (arith, c.loop-worker-test.false, c.workers-worker-end.ensures.value, c.requires.boxes))
