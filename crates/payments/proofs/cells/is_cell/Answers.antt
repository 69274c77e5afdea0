use Rattle.std.proofs.Common.{refl, sym}
use Rattle.csv.specs.Records.{fields_of}
use Rattle.payments.proofs.CellLemmas.{field_at-none, field_at-some}
use Rattle.payments.proofs.cells.is_cell.Goals as goal

pub returns-in-Some : goal.returns-in-Some
returns-in-Some c = rw (field_at-some (fields_of c.args.cells.now) c.args.place c.in-Some.cell.now (sym c.in-Some.ensures.value)) c.eq.ensures

pub returns-in-None : goal.returns-in-None
returns-in-None c = rw (field_at-none (fields_of c.args.cells.now) c.args.place (sym c.in-None.ensures.value)) refl
