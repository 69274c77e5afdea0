use Rattle.flow_model.specs.Setup.{setup_view}
use Rattle.coordinator.proofs.Asking.{Counted}
use Rattle.coordinator.proofs.boxes.count.Given as goal

abbrev pub invariant-loop-worker : goal.invariant-loop-worker
invariant-loop-worker l = Counted (setup_view l.setup) l.request l.worker l.fn.covered l.covered
