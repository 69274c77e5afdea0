use Rattle.std.proofs.Common.{◌≡◌, ◌++◌, drop}
use Rattle.payments.specs.Made.{fields_made, number_after_fields}
use Rattle.payments.proofs.make.fields_of.Given as goal

abbrev pub invariant-loop-column : goal.invariant-loop-column
invariant-loop-column l = record {
  left : l.fields ++ fields_made (drop l.column-index l.columns) l.draws.number ≡ fields_made l.columns l.fn.draws.number;
  number : number_after_fields (drop l.column-index l.columns) l.draws.number ≡ number_after_fields l.columns l.fn.draws.number;
}
