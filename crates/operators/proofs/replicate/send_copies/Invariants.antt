use Rattle.std.proofs.Common.{◌≡◌, ◌++◌, map, take}
use Rattle.operators.specs.Meaning.{born, sent}
use Rattle.operators.proofs.replicate.send_copies.Given as goal

abbrev pub invariant-loop-port : goal.invariant-loop-port
invariant-loop-port l =
    l.out ≡ l.initial.out ++ map (λ p. sent l.visit p (born p l.tuple)) (take l.port-index l.ports)
