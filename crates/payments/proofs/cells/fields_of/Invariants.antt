use Rattle.std.proofs.Common.{◌≡◌, drop}
use Rattle.csv.specs.Records.{fields_of}
use Rattle.payments.specs.Reading.{fields_from}
use Rattle.payments.proofs.Rest.{after}
use Rattle.payments.proofs.cells.fields_of.Given as goal

abbrev pub invariant-loop-place : goal.invariant-loop-place
invariant-loop-place l = after l.fields (fields_from l.row l.place (drop l.place l.columns) (drop l.next (fields_of l.cells))) ≡ fields_from l.row 0 l.columns (drop 1 (fields_of l.cells))
