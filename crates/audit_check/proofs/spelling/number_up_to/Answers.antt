use Rattle.std.proofs.Common.{◌∙◌, sym}
use Rattle.audit_check.proofs.SpellingLemmas.{no_number, other_number}
use Rattle.audit_check.proofs.spelling.number_up_to.Goals as goal

pub returns-in_default-clause-none : goal.returns-in_default-clause-none
returns-in_default-clause-none c number le e =
    other_number c.args.text.now c.args.limit c.in-Some.number c.ranges.limit.fits (sym c.digits_up_to.ensures ∙ c.in-Some.is)
    (λ p. let yes = c.is_printed.ensures.1 p in let no = c.if-is_printed.false in absurd (cc)) number le e

pub returns-in_default-2-clause-none : goal.returns-in_default-2-clause-none
returns-in_default-2-clause-none c number le e =
    no_number c.args.text.now c.args.limit c.ranges.limit.fits (sym c.digits_up_to.ensures ∙ c.in_default.is) number le e
