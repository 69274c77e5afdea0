use Rattle.audit_parts.proofs.CutLemmas.{cut_full, cut_joined}
use Rattle.audit_parts.proofs.laws.parts_join_to_the_records.Goals as goal

pub returns-clause-joined : goal.returns-clause-joined
returns-clause-joined c records = cut_joined records

pub returns-clause-some : goal.returns-clause-some
returns-clause-some c records = cut_full records
