use Rattle.std.proofs.Common.{◌≡◌, ◌+◌, length}
use Rattle.std.specs.Vec.Iter.{into_iter_items, into_iter_len}
use Rattle.flow_model.specs.Setup.{setup_view}
use Rattle.test_actors.specs.Crews.{AreLawfulWorkers}
use Rattle.test_actors.proofs.tests.by_hand.leave_journals.Given as goal

abbrev pub invariant-loop-worker : goal.invariant-loop-worker
invariant-loop-worker g l = record {
  may : (goal.iterator-loop-worker g).can_next l.worker-iterator;
  finite : (goal.iterator-loop-worker g).is_finite l.worker-iterator;
  counted : into_iter_len l.worker-iterator ≡ length (into_iter_items l.worker-iterator);
  many : l.seen + length (into_iter_items l.worker-iterator) ≡ length l.fn.workers.items;
  left : AreLawfulWorkers (setup_view l.setup) (into_iter_items l.worker-iterator);
}
