use Rattle.std.proofs.Common.{◌∙◌, ◌++◌, ap, append_assoc, sym, List, ℕ, decimal, ◌∷◌, []}
use Rattle.csv.specs.Writing.{default_writer, fields_text}
use Rattle.sink_journal.specs.Alerts.{cells}
use Rattle.sink_journal.proofs.FieldLemmas.{parts-record, on-ok}
use Rattle.sink_journal.proofs.alerts.write_alert.Goals as goal

pub returns : goal.returns
returns c =
    let old = c.args.lines.now in
    let front = c.args.front.now in
    let number = fields_text default_writer (decimal c.args.tuple.now.row ∷ []) in
    let first = ap (λ (x : List ℕ). old ++ x) c.requires in
    let second = c.in_ok-begin_numbered.ensures ∙ sym (append_assoc old front number) in
    on-ok c.end.result (λ last. parts-record old (old ++ front) c.begin_numbered.new.self c.add_cells.new.lines c.end.new.self c.args.name.now (decimal c.args.tuple.now.row) (cells c.args.layout.now c.args.tuple.now.fields) first second (rw c.as_slice.ensures at c.in_ok-add_cells.ensures) last) c.end.ensures
