use Rattle.std.proofs.Common.{◌≡◌, ◌++◌, ◌∷◌, drop}
use Rattle.std.specs.List.{concat}
use Rattle.audit_stream.proofs.places.join.Given as goal

abbrev pub invariant-loop-list : goal.invariant-loop-list
invariant-loop-list l = l.places ++ concat (drop l.list-index l.lists) ≡ 0 ∷ concat l.lists
