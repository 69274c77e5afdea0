use Rattle.audit_check.proofs.SpellingLemmas.{part_number}
use Rattle.audit_check.proofs.spelling.numbers_in.Goals as goal

pub returns-in_default-clause-none : goal.returns-in_default-clause-none
returns-in_default-clause-none c births h e =
    let q = part_number c.args.parts.now c.loop-part.part-index _ births c.loop-part-test.true h e in
    let none = c.in_default.ensures.none in
    none q.0 q.1 q.2
