use Rattle.std.proofs.Common.{None, ◌+◌, ◌++◌, drop, map, slice_index_or}
use Rattle.std.specs.List.{enumerate_from}
use Rattle.std.specs.Prelude.{slice_get}
use Rattle.std.proofs.lemmas.List.{drop_all, drop_more}
use Rattle.csv.specs.Writing.{default_writer, fields_text}
use Rattle.sink_journal.specs.Alerts.{cells}
use Rattle.sink_journal.specs.Printed.{cell}
use Rattle.sink_journal.proofs.FieldLemmas.{fields-none, fields-step}
use Rattle.sink_journal.proofs.alerts.add_cells.Goals as goal

pub loop-number-preserved : goal.loop-number-preserved
loop-number-preserved c =
    let layout = c.args.layout.now in
    let n = c.loop-number.number in
    let here = cell (slice_index_or layout n None) (slice_get c.args.fields.now n) in
    let rest = map (λ (number, kind). cell kind (slice_get c.args.fields.now number)) (enumerate_from (n + 1) (drop (n + 1) layout)) in
    let end = c.args.lines.now ++ fields_text default_writer (cells layout c.args.fields.now) in
    fields-step c.loop-number.lines c.add_cell.new.lines here end rest c.in_ok-add_cell.ensures (rw (drop_more layout n None c.loop-number-test.true) at c.loop-number.invariant)

pub returns : goal.returns
returns c =
    let layout = c.args.layout.now in
    let end = c.args.lines.now ++ fields_text default_writer (cells layout c.args.fields.now) in
    fields-none c.loop-number.lines end (rw (drop_all c.loop-number.number layout c.loop-number-test.false) at c.loop-number.invariant)
