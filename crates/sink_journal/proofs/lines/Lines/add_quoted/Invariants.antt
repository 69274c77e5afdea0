use Rattle.std.proofs.Common.{◌≡◌, ◌++◌, ◌∷◌, drop}
use Rattle.csv.specs.Writing.{default_writer, escaped}
use Rattle.sink_journal.proofs.lines.Lines.add_quoted.Given as goal

abbrev pub invariant-loop-byte : goal.invariant-loop-byte
invariant-loop-byte l = l.self ++ escaped default_writer (drop l.byte-index l.field) ≡ l.fn.self ++ 34 ∷ escaped default_writer l.field
