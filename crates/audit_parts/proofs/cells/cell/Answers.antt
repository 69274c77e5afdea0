use Rattle.std.proofs.Common.{sym}
use Rattle.csv.specs.Records.{fields_of}
use Rattle.sink_journal.proofs.CellLemmas.{cell_none, cell_some}
use Rattle.audit_parts.proofs.cells.cell.Goals as goal

pub returns-in-Some : goal.returns-in-Some
returns-in-Some c = sym (cell_some (fields_of c.args.cells.now) c.args.place c.in-Some.cell.now (sym c.in-Some.ensures.value))

pub returns-in-None : goal.returns-in-None
returns-in-None c = sym (cell_none (fields_of c.args.cells.now) c.args.place (sym c.in-None.ensures.value))
