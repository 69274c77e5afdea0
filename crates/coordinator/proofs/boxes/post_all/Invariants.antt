use Rattle.flow_model.specs.Setup.{setup_view}
use Rattle.coordinator.proofs.Asking.{Posted}
use Rattle.coordinator.proofs.boxes.post_all.Given as goal

abbrev pub invariant-loop-worker : goal.invariant-loop-worker
invariant-loop-worker l = Posted (setup_view l.setup) l.request l.covered l.worker l.fn.posters l.posters
