use Rattle.std.proofs.Common.{◌≡◌, ◌++◌, drop, map}
use Rattle.std.specs.List.{enumerate_from}
use Rattle.std.specs.Prelude.{slice_get}
use Rattle.csv.specs.Writing.{default_writer, fields_text}
use Rattle.sink_journal.specs.Alerts.{cells}
use Rattle.sink_journal.specs.Printed.{cell}
use Rattle.sink_journal.proofs.alerts.add_cells.Given as goal

abbrev pub invariant-loop-number : goal.invariant-loop-number
invariant-loop-number l =
    l.lines ++ fields_text default_writer (map (λ (number, kind). cell kind (slice_get l.fields number)) (enumerate_from l.number (drop l.number l.layout)))
    ≡ l.fn.lines ++ fields_text default_writer (cells l.layout l.fields)
