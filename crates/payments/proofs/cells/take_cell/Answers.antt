use Rattle.std.proofs.Common.{refl, sym}
use Rattle.csv.specs.Records.{fields_of}
use Rattle.payments.proofs.CellLemmas.{field_at-none, field_at-some}
use Rattle.payments.proofs.cells.take_cell.Goals as goal

pub returns-in-Some-clause-cell : goal.returns-in-Some-clause-cell
returns-in-Some-clause-cell c = rw (field_at-some (fields_of c.args.cells.now) c.args.next.now c.in-Some.cell.now (sym c.in-Some.ensures.value)) refl

pub returns-in-Some-clause-rest : goal.returns-in-Some-clause-rest
returns-in-Some-clause-rest c = rw (field_at-some (fields_of c.args.cells.now) c.args.next.now c.in-Some.cell.now (sym c.in-Some.ensures.value)) refl

pub returns-in-None-clause-cell : goal.returns-in-None-clause-cell
returns-in-None-clause-cell c = rw (field_at-none (fields_of c.args.cells.now) c.args.next.now (sym c.in-None.ensures.value)) refl

pub returns-in-None-clause-rest : goal.returns-in-None-clause-rest
returns-in-None-clause-rest c = rw (field_at-none (fields_of c.args.cells.now) c.args.next.now (sym c.in-None.ensures.value)) refl
