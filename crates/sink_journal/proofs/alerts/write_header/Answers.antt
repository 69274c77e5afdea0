use Rattle.std.proofs.Common.{◌+◌, ◌++◌, ◌∙◌, List, ℕ, ap, append_assoc, codes, drop, map, refl, sym}
use Rattle.std.proofs.lemmas.List.{drop_all, drop_more}
use Rattle.csv.specs.Writing.{default_writer, fields_text}
use Rattle.sink_journal.proofs.FieldLemmas.{any-field, fields-none, fields-step, parts-record, on-ok}
use Rattle.sink_journal.proofs.alerts.write_header.Goals as goal

pub loop-column-preserved : goal.loop-column-preserved
loop-column-preserved c =
    let columns = c.args.columns.now in
    let i = c.loop-column.column-index in
    let item = c.column-item.result in
    let rest = map (λ column. column.name) (drop (i + 1) columns) in
    let end = c.add.new.self ++ fields_text default_writer (map (λ column. column.name) columns) in
    let before = rw (drop_more columns i item c.loop-column-test.true, sym c.column-item.is) at c.loop-column.invariant in
    fields-step c.loop-column.lines c.add_text.new.self item.name end rest (rw c.as_slice.ensures at c.in_ok-add_text.ensures) before

pub returns : goal.returns
returns c =
    let columns = c.args.columns.now in
    let names = map (λ column. column.name) columns in
    let old = c.args.lines.now in
    let start = old ++ codes "sink" in
    let end = c.add.new.self ++ fields_text default_writer names in
    let second = c.in_ok-add.ensures ∙ sym (append_assoc old (codes "sink") (codes ",row")) ∙ ap (λ (x : List ℕ). start ++ x) (sym (any-field (codes "row"))) in
    let third = fields-none c.loop-column.lines end (rw (drop_all c.loop-column.column-index columns c.loop-column-test.false) at c.loop-column.invariant) in
    on-ok c.end.result (λ last. parts-record old start c.add.new.self c.loop-column.lines c.end.new.self (codes "sink") (codes "row") names refl second third last) c.end.ensures
