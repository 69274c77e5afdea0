use Rattle.std.proofs.Common.{◌≡◌, ◌++◌, drop}
use Rattle.versions.specs.Book.{first_book}
use Rattle.versions.proofs.book.Book.of.Given as goal

abbrev pub invariant-loop-node : goal.invariant-loop-node
invariant-loop-node l = l.entries.items ++ first_book (drop l.node-index l.node-items) ≡ first_book l.node-items
