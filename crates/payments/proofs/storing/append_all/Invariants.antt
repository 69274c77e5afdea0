use Rattle.std.proofs.Common.{◌≡◌, ℕ, List, ◌++◌, length, Some}
use Rattle.std.specs.Prelude.{IsSome}
use Rattle.payments.specs.Files.{draft_name, draft_with}
use Rattle.payments.proofs.storing.append_all.Given as goal

abbrev pub invariant-loop-rest : goal.invariant-loop-rest
invariant-loop-rest g l = record {
  done : List ℕ;
  text : l.text ≡ done ++ l.rest;
  there : IsSome (g.S.Shelf.state l.shelf).draft;
  draft :
      (name begun : List ℕ)
      → (g.S.Shelf.state l.fn.shelf).draft
      ≡ Some (draft_with (g.S.Shelf.state l.fn.shelf).files name begun)
      → (g.S.Shelf.state l.shelf).draft
      ≡ Some (draft_with (g.S.Shelf.state l.fn.shelf).files name (begun ++ done));
  named :
      draft_name (g.S.Shelf.state l.shelf).draft ≡ draft_name (g.S.Shelf.state l.fn.shelf).draft;
  files : (g.S.Shelf.state l.shelf).files ≡ (g.S.Shelf.state l.fn.shelf).files;
  faults : (g.S.Shelf.state l.shelf).faults ≡ (g.S.Shelf.state l.fn.shelf).faults;
}

abbrev pub decreases-loop-rest : goal.decreases-loop-rest
decreases-loop-rest g l = length l.rest
