use Rattle.std.proofs.Common.{◌≢◌, ◌∙◌, [], sym, ap}
use Rattle.audit_check.specs.Parts.{texts_of}
use Rattle.audit_check.proofs.SpellingLemmas.{births_parts, parts_births}
use Rattle.audit_check.proofs.spelling.births.Goals as goal

pub returns-in-Some-clause-some : goal.returns-in-Some-clause-some
returns-in-Some-clause-some c =
    let k = rw c.in-Some.is at c.in_ok-births.ensures.some in
    rw (c.in_ok-from_slice-in-Some.ensures, c.as_slice-in-Some.ensures)
    (parts_births c.args.text.now c.in-Some.births (sym c.in_ok-parts.ensures ∙ (ap texts_of (sym c.as_slice.ensures.value) ∙ k.0)), k.1)

pub returns-clause-none : goal.returns-clause-none
returns-clause-none c births h e =
    let k = rw c.in-None.is at c.in_ok-births.ensures.none in
    let some : c.args.text.now ≢ [] = λ p. let empty = c.is_empty.ensures in let no = c.if-is_empty.false in absurd (cc (rw p at empty)) in
    k births h (ap texts_of c.as_slice.ensures.value ∙ (c.in_ok-parts.ensures ∙ births_parts c.args.text.now births some h e))
