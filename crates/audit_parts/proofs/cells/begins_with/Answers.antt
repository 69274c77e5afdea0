use Rattle.std.proofs.Common.{refl, sym}
use Rattle.csv.specs.Records.{fields_of}
use Rattle.audit_parts.proofs.CellLemmas.{first_none, first_some}
use Rattle.audit_parts.proofs.cells.begins_with.Goals as goal

pub returns-in-Some : goal.returns-in-Some
returns-in-Some c = rw (first_some (fields_of c.args.cells.now) c.in-Some.cell.now (sym c.in-Some.ensures.value)) c.eq.ensures

pub returns-in-None : goal.returns-in-None
returns-in-None c = rw (first_none (fields_of c.args.cells.now) (sym c.in-None.ensures.value)) refl
