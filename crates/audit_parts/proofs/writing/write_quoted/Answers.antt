use Rattle.std.proofs.Common.{◌∷◌, ◌++◌, ◌∙◌, [], ap, sym, List, ℕ, drop, append_assoc, slice_index_or, ◌+◌}
use Rattle.std.proofs.lemmas.List.{drop_more}
use Rattle.csv.specs.Writing.{default_writer, escaped}
use Rattle.sink_journal.proofs.FieldLemmas.{escaped-cons, escaped-done, on-ok}
use Rattle.audit_parts.proofs.writing.write_quoted.Goals as goal

pub loop-byte-preserved : goal.loop-byte-preserved
loop-byte-preserved c =
    let field = c.args.field.now in
    let i = c.loop-byte.byte-index in
    let b = slice_index_or field i 0 in
    let rest = escaped default_writer (drop (i + 1) field) in
    let here = ap (λ (t : List ℕ). c.loop-byte.text ++ escaped default_writer t) (drop_more field i 0 c.loop-byte-test.true) ∙ ap (λ (t : List ℕ). c.loop-byte.text ++ t) (escaped-cons b (drop (i + 1) field)) in
    ap (λ (t : List ℕ). t ++ rest) c.in_ok-write_escaped.ensures ∙ append_assoc c.loop-byte.text (escaped default_writer (b ∷ [])) rest ∙ sym here ∙ c.loop-byte.invariant

pub returns : goal.returns
returns c =
    let field = c.args.field.now in
    let done = escaped-done c.loop-byte.text c.args.text.now field c.loop-byte.byte-index c.loop-byte-test.false c.loop-byte.invariant in
    on-ok c.push-2.result (λ text. text ∙ ap (λ (t : List ℕ). t ++ 34 ∷ []) done ∙ append_assoc c.args.text.now (34 ∷ escaped default_writer field) (34 ∷ [])) c.push-2.ensures.ok
