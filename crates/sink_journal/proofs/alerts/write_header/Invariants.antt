use Rattle.std.proofs.Common.{◌≡◌, ◌++◌, drop, map}
use Rattle.csv.specs.Writing.{default_writer, fields_text}
use Rattle.sink_journal.proofs.alerts.write_header.Given as goal

abbrev pub invariant-loop-column : goal.invariant-loop-column
invariant-loop-column l =
    l.lines ++ fields_text default_writer (map (λ column. column.name) (drop l.column-index l.columns))
    ≡ l.initial.lines ++ fields_text default_writer (map (λ column. column.name) l.columns)
