use Rattle.std.proofs.Common.{◌++◌, ◌∙◌, ap, sym, List, ℕ}
use Rattle.csv.specs.Records.{fields_of}
use Rattle.csv.specs.Writing.{default_writer, field_text}
use Rattle.sink_journal.proofs.FieldLemmas.{on-ok}
use Rattle.audit_parts.proofs.FieldLemmas.{blank-record, shown-record}
use Rattle.audit_parts.proofs.writing.write_record.Goals as goal

pub returns-then-is_blank : goal.returns-then-is_blank
returns-then-is_blank c =
    let blank = sym c.is_blank.ensures ∙ c.if-is_blank.true in
    on-ok c.extend_from_slice.result (λ text. blank-record c.args.text.now c.extend_from_slice.new.self (fields_of c.args.cells.now) blank text) c.extend_from_slice.ensures.ok

pub returns : goal.returns
returns c =
    let shown = sym c.is_blank.ensures ∙ c.if-is_blank.false in
    let first = c.in_ok-write_field.ensures ∙ ap (λ (t : List ℕ). c.args.text.now ++ field_text default_writer t) c.cell.ensures in
    on-ok c.push.result
    (λ end. shown-record c.args.text.now c.write_field.new.text c.write_later.new.text c.push.new.self (fields_of c.args.cells.now) shown first c.in_ok-write_later.ensures end)
    c.push.ensures.ok
