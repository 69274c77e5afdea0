use Rattle.std.proofs.Common.{◌≡◌, ◌≤◌, ◌∷◌, drop, length}
use Rattle.std.specs.Prelude.{codes}
use Rattle.csv.specs.Records.{fields_of}
use Rattle.payments.specs.Reading.{given_names}
use Rattle.payments.proofs.CellLemmas.{same}
use Rattle.payments.proofs.cells.is_header.Given as goal

abbrev pub invariant-loop-column : goal.invariant-loop-column
invariant-loop-column l = record {
  within : l.next ≤ length (fields_of l.cells);
  left : same (drop l.next (fields_of l.cells)) (given_names (drop l.column-index l.columns)) ≡ same (fields_of l.cells) (codes "source" ∷ given_names l.columns);
}
