use Rattle.std.proofs.Common.{◌≡◌, ◌++◌, ℕ, List, length, None}
use Rattle.payments.specs.Growing.{with_text}
use Rattle.payments.proofs.growing.extend_all.Given as goal

abbrev pub invariant-loop-left : goal.invariant-loop-left
invariant-loop-left g l = record {
  done : List ℕ;
  text : l.text ≡ done ++ l.left;
  files : (g.S.Shelf.state l.shelf).files ≡ with_text (g.S.Shelf.state l.fn.shelf).files l.name done;
  draft : (g.S.Shelf.state l.shelf).draft ≡ None;
  faults : (g.S.Shelf.state l.shelf).faults ≡ (g.S.Shelf.state l.fn.shelf).faults;
}

abbrev pub decreases-loop-left : goal.decreases-loop-left
decreases-loop-left g l = length l.left
