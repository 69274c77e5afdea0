use Rattle.std.proofs.Common.{◌∙◌, ap, rules, sym, w64}
use Rattle.std.specs.Fmt.{signed_decimal}
use Rattle.std.proofs.lemmas.Int.{to_z-of_z}
use mir.Val.{SFits}
use Rattle.audit_check.proofs.SpellingLemmas.{no_signed, other_signed}
use Rattle.audit_check.proofs.spelling.signed.Goals as goal

pub returns-in_default-clause-none : goal.returns-in_default-clause-none
returns-in_default-clause-none c count lt e =
    let fits : SFits w64 c.in-Some.count = search rules in
    other_signed c.args.text.now c.in-Some.count (sym c.loosely.ensures ∙ c.in-Some.is)
    (λ p. let yes = c.is_signed.ensures.1 (p ∙ ap signed_decimal (sym (to_z-of_z w64 c.in-Some.count fits))) in let no = c.if-is_signed.false in absurd (cc)) count lt e

pub returns-in_default-2-clause-none : goal.returns-in_default-2-clause-none
returns-in_default-2-clause-none c count lt e = no_signed c.args.text.now (sym c.loosely.ensures ∙ c.in_default.is) count lt e
