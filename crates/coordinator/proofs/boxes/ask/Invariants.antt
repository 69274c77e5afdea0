use Rattle.coordinator.specs.Boxes.{AreReady}
use Rattle.coordinator.proofs.Asking.{Asked}
use Rattle.coordinator.proofs.boxes.ask.Given as goal

abbrev pub invariant-loop-place : goal.invariant-loop-place
invariant-loop-place l = record {
  asked : Asked l.place l.fn.posters l.posters;
  ready : AreReady l.covered l.place l.posters;
}
