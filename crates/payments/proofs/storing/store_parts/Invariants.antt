use Rattle.std.proofs.Common.{◌≡◌, ℕ, List, ◌++◌, drop, Some}
use Rattle.std.specs.List.{concat}
use Rattle.payments.specs.Files.{draft_with}
use Rattle.payments.proofs.storing.store_parts.Given as goal

abbrev pub invariant-loop-part : goal.invariant-loop-part
invariant-loop-part g l = record {
  done : List ℕ;
  text : concat l.parts ≡ done ++ concat (drop l.part-index l.parts);
  draft :
      (g.S.Shelf.state l.shelf).draft
      ≡ Some (draft_with (g.S.Shelf.state l.fn.shelf).files l.name done);
  files : (g.S.Shelf.state l.shelf).files ≡ (g.S.Shelf.state l.fn.shelf).files;
  faults : (g.S.Shelf.state l.shelf).faults ≡ (g.S.Shelf.state l.fn.shelf).faults;
}
