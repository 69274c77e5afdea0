use Rattle.std.proofs.Common.{◌≡◌, take}
use Rattle.flow_model.proofs.StartLemmas.{uncounted}
use Rattle.flow_model.proofs.start.Start.first.Given as goal

abbrev pub invariant-loop-worker : goal.invariant-loop-worker
invariant-loop-worker l = l.states ≡ uncounted (take l._worker-index l.setup.topology.workers)
