use Rattle.audit_parts.proofs.BorderLemmas.{cut_between, cut_inside}
use Rattle.audit_parts.proofs.laws.parts_are_cut_at_borders.Goals as goal

pub returns-clause-inside : goal.returns-clause-inside
returns-clause-inside c records = cut_inside records

pub returns-clause-between : goal.returns-clause-between
returns-clause-between c records = cut_between records
