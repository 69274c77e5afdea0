use Rattle.std.proofs.Common.{◌∙◌, subst, sym}
use Rattle.std.specs.Prelude.{All}
use Rattle.csv.specs.Reading.{strip_bom}
use Rattle.audit_parts.specs.inner.Fields.{HasField}
use Rattle.audit_parts.proofs.ReadLemmas.{records_have}
use Rattle.audit_parts.proofs.parts.AuditParts.of.Goals as goal

pub invariant_of-result : goal.invariant_of-result
invariant_of-result c =
    let have = subst (All HasField) (sym c.of-records.ensures) (records_have (strip_bom c.args.bytes.now)) in
    let some = rw c.in-Some.is at c.in_ok-more.ensures.fields have in
    record { fielded = λ is. some (sym c.ahead_of.ensures.read ∙ is) }
