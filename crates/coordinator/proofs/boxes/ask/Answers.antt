use Rattle.std.proofs.Common.{◌+◌, ◌<◌, arith, get_or, length, refl}
use Rattle.std.proofs.lemmas.Option.{slice_get-get_or}
use Rattle.coordinator.proofs.Asking.{ask_next, ask_stops, loaded_below, loaded_ready, ready_kept, ready_next}
use Rattle.coordinator.proofs.boxes.ask.Goals as goal

pub returns-then-not-ready-clause-ready : goal.returns-then-not-ready-clause-ready
returns-then-not-ready-clause-ready c = ready_kept c.args.covered.now c.loop-place.place c.loop-place.posters c.ready.new.self c.loop-place.invariant.ready

pub returns-then-not-ready-clause-waits : goal.returns-then-not-ready-clause-waits
returns-then-not-ready-clause-waits c = λ _.
    let k = c.loop-place.place in
    let x = get_or c.loop-place.posters k c.index-posters-place.result in
    let lt : k < length c.loop-place.posters = omega (arith, c.loop-place-test.true, c.loop-place.auto.posters) in
    let lt' : k < length c.args.covered.now = omega (arith, lt, c.loop-place.auto.posters, c.requires.one_each) in
    let n = get_or c.args.covered.now k 0 in
    ask_stops c.args.covered.now k n c.ready.ensures.load.0 c.args.posters.now c.loop-place.posters x c.ready.new.self c.loop-place.invariant.asked
    (slice_get-get_or c.loop-place.posters k c.index-posters-place.result lt) (slice_get-get_or c.args.covered.now k 0 lt') c.ready.ensures.load.1
    (loaded_below (n + 1) n c.ready.ensures.load.0 c.ready.result c.ready.ensures.load.4 refl c.if-not-ready.true)

pub loop-place-preserved : goal.loop-place-preserved
loop-place-preserved c =
    let k = c.loop-place.place in
    let x = get_or c.loop-place.posters k c.index-posters-place.result in
    let lt : k < length c.loop-place.posters = omega (arith, c.loop-place-test.true, c.loop-place.auto.posters) in
    let lt' : k < length c.args.covered.now = omega (arith, lt, c.loop-place.auto.posters, c.requires.one_each) in
    let n = get_or c.args.covered.now k 0 in
    let there = slice_get-get_or c.loop-place.posters k c.index-posters-place.result lt in
    record {
      asked = ask_next k c.args.posters.now c.loop-place.posters x c.ready.new.self c.loop-place.invariant.asked there c.ready.ensures.same.0 c.ready.ensures.same.1;
      ready = ready_next c.args.covered.now k n c.ready.ensures.load.0 c.loop-place.posters x c.ready.new.self c.loop-place.invariant.ready there (slice_get-get_or c.args.covered.now k 0 lt') c.ready.ensures.load.1
          (loaded_ready (n + 1) n c.ready.ensures.load.0 c.ready.result c.ready.ensures.load.4 refl c.if-not-ready.false);
    }
