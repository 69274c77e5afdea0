use Rattle.std.proofs.Common.{◌==◌, ◌∙◌, List, ℕ, ap, arith, length, sym}
use Rattle.csv.specs.Records.{fields_of}
use Rattle.std.proofs.lemmas.Bool.{le-ltb}
use Rattle.audit_parts.proofs.FieldLemmas.{blank-is, not-blank}
use Rattle.audit_parts.proofs.writing.is_blank.Goals as goal

pub returns-then-len-lt2 : goal.returns-then-len-lt2
returns-then-len-lt2 c =
    c.is_empty.ensures ∙ ap (λ (s : List ℕ). length s == 0) c.cell.ensures ∙ blank-is (fields_of c.args.cells.now) (omega (arith, c.len.ensures))

pub returns-else-len-lt2 : goal.returns-else-len-lt2
returns-else-len-lt2 c =
    le-ltb c.len.result 2 (omega arith) ∙ sym (not-blank (fields_of c.args.cells.now) (omega (arith, c.len.ensures)))
