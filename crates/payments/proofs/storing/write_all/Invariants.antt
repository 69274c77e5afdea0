use Rattle.std.proofs.Common.{◌≡◌, ◌++◌, ℕ, List, length}
use Rattle.std.specs.Prelude.{option_map}
use Rattle.payments.proofs.storing.write_all.Given as goal

abbrev pub invariant-loop-left : goal.invariant-loop-left
invariant-loop-left g l = record {
  done : List ℕ;
  text : l.text ≡ done ++ l.left;
  written : (g.O.Sink.state l.out).written ≡ option_map (λ w. w ++ done) (g.O.Sink.state l.fn.out).written;
  faults : (g.O.Sink.state l.out).faults ≡ (g.O.Sink.state l.fn.out).faults;
}

abbrev pub decreases-loop-left : goal.decreases-loop-left
decreases-loop-left g l = length l.left
