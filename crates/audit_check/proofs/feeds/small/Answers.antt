use Rattle.std.proofs.Common.{◌≡◌, ◌∙◌, arith, sym}
use Rattle.std.proofs.lemmas.Fmt.{decimal_injective}
use Rattle.audit_check.proofs.feeds.small.Goals as goal

pub returns-in_default-clause-none : goal.returns-in_default-clause-none
returns-in_default-clause-none c code one nine e =
    let le = c.if-code-gt0.false in
    let same : code ≡ c.in-Some.code = decimal_injective code c.in-Some.code (omega arith) (omega arith) (sym e ∙ c.in-Some.ensures.some.1) in
    absurd (omega arith)
