use Rattle.std.proofs.Common.{◌≡◌, ◌≤◌, ◌++◌, drop}
use Rattle.coordinator.specs.Feeding.{places_after}
use Rattle.coordinator.proofs.place.places_of.Given as goal

abbrev pub invariant-loop-lane : goal.invariant-loop-lane
invariant-loop-lane l = record {
  so : l.places.items ++ places_after l.place (drop l.lane-index l.lanes) ≡ places_after 0 l.lanes;
  near : l.place ≤ l.lane-index;
}
