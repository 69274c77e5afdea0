use Rattle.std.proofs.Common.{◌∷◌}
use Rattle.csv.specs.Records.{fields_of}
use Rattle.audit_parts.proofs.FillLemmas.{IsFilled}
use Rattle.audit_parts.proofs.filling.fill.Given as goal

abbrev pub invariant-loop : goal.invariant-loop
invariant-loop l = IsFilled (fields_of l.fn.cells ∷ l.fn.records) l.part (fields_of l.cells) l.records l.counter
