use Rattle.std.proofs.Common.{◌++◌, ◌∙◌, [], ap, sym, List, ℕ, arith, drop, get_or, length, ◌+◌, ◌<◌, ◌≤◌}
use Rattle.std.proofs.lemmas.List.{drop_all, drop_more}
use Rattle.csv.specs.Records.{fields_of}
use Rattle.csv.specs.Writing.{default_writer, field_text, fields_text}
use Rattle.sink_journal.proofs.FieldLemmas.{fields-none}
use Rattle.audit_parts.proofs.FieldLemmas.{one-field}
use Rattle.audit_parts.proofs.writing.write_later.Goals as goal

pub loop-place-preserved : goal.loop-place-preserved
loop-place-preserved c =
    let fields = fields_of c.args.cells.now in
    let i = c.loop-place.place in
    let within : i < length fields = omega (arith, c.len-place-end.ensures, c.loop-place-test.true) in
    let end = c.args.text.now ++ fields_text default_writer (drop 1 fields) in
    let before = ap (λ (l : List (List ℕ)). c.loop-place.text ++ fields_text default_writer l) (sym (drop_more fields i [] within)) ∙ c.loop-place.invariant in
    one-field c.loop-place.text c.push.new.self c.write_field.new.text (get_or fields i []) end (drop (i + 1) fields) c.in_ok-push.ensures.ok
    (c.in_ok-write_field.ensures ∙ ap (λ (t : List ℕ). c.push.new.self ++ field_text default_writer t) c.cell.ensures) before

pub returns : goal.returns
returns c =
    let fields = fields_of c.args.cells.now in
    let past : length fields ≤ c.loop-place.place = omega (arith, c.len-place-end.ensures, c.loop-place-test.false) in
    let end = c.args.text.now ++ fields_text default_writer (drop 1 fields) in
    fields-none c.loop-place.text end
    (ap (λ (l : List (List ℕ)). c.loop-place.text ++ fields_text default_writer l) (sym (drop_all c.loop-place.place fields past)) ∙ c.loop-place.invariant)
