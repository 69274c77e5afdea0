use Rattle.std.proofs.Common.{◌≡◌, length}
use Rattle.std.specs.Vec.Iter.{into_iter_items, into_iter_len}
use Rattle.flow_model.specs.Setup.{setup_view}
use Rattle.test_actors.specs.Crews.{AreLawfulWorkers}
use Rattle.test_actors.proofs.tests.real_setups.are_idle.Given as goal

abbrev pub invariant-loop-worker : goal.invariant-loop-worker
invariant-loop-worker g l = record {
  may : (goal.iterator-loop-worker g).can_next l.worker-iterator;
  finite : (goal.iterator-loop-worker g).is_finite l.worker-iterator;
  counted : into_iter_len l.worker-iterator ≡ length (into_iter_items l.worker-iterator);
  left : AreLawfulWorkers (setup_view l.setup) (into_iter_items l.worker-iterator);
}
