use Rattle.std.proofs.Common.{◌∙◌, ap, length, sym, Some}
use Rattle.std.proofs.lemmas.Iterator.Adapters.{YieldsList-from_vec}
use Rattle.std.proofs.lemmas.Iterator.Consumers.{YieldsList-turn}
use Rattle.std.proofs.lemmas.Option.{slice_get-get_or}
use Rattle.flow_model.specs.Begin.{at_first}
use Rattle.flow_model.specs.Setup.{setup_view}
use Rattle.flow_worker.specs.Worker.{IsWorker}
use Rattle.flow_crew.proofs.Sorting.{each_got}
use Rattle.test_actors.proofs.tests.whole.all_done.Goals as goal

pub until_done-requires-after_bounds : goal.until_done-requires-after_bounds
until_done-requires-after_bounds g c κs within =
    let from = c.into_iter-worker-iterator.ensures.into_iter_gives in
    let P = IsWorker (setup_view c.args.setup.now) (at_first (setup_view c.args.setup.now)) in
    let all = YieldsList-from_vec {s = c.into_iter-worker-iterator.result} c.args.workers.items from.0 (from.1 ∙ c.args.workers.ok.0) in
    let turn = YieldsList-turn all c.loop-worker.yielded c.loop-worker.worker-iterator c.loop-worker.yielded_by c.next.result c.next.new.self c.in-Some.worker c.in-Some.is c.next.ensures.steps in
    each_got P c.args.workers.items (length c.loop-worker.yielded) c.in-Some.worker c.requires (slice_get-get_or c.args.workers.items (length c.loop-worker.yielded) c.in-Some.worker turn.0 ∙ ap Some (sym turn.1))
