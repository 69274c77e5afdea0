use Rattle.audit_parts.proofs.PartLemmas.{parts_found}
use Rattle.audit_parts.proofs.laws.written_parts_are_found.Goals as goal

pub returns : goal.returns
returns c job parts all = parts_found job parts all
