use Rattle.audit_stream.proofs.PlaceLemmas.{ArePlacedTo}
use Rattle.audit_stream.proofs.places.sort_places.Given as goal

abbrev pub invariant-loop-number : goal.invariant-loop-number
invariant-loop-number l = ArePlacedTo l.workers l.stop l.fn.records l.records l.number l.lists
