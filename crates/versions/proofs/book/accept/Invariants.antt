use Rattle.std.proofs.Common.{◌≡◌, ℕ, false, drop, take, length}
use Rattle.std.specs.List.{slice_get}
use Rattle.versions.specs.Book.{accepted, is_named}
use Rattle.versions.proofs.book.accept.Given as goal

abbrev pub invariant-loop-change : goal.invariant-loop-change
invariant-loop-change l = record {
  long : length l.next ≡ length l.fn.book;
  same : (node : ℕ) → is_named (take l.change-index l.change-items) node ≡ false → slice_get l.next node ≡ slice_get l.fn.book node;
  rest : accepted l.next (drop l.change-index l.change-items) ≡ accepted l.fn.book l.change-items;
}
