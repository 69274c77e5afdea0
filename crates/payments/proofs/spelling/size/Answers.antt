use Rattle.std.proofs.Common.{◌≡◌, ◌+◌, ◌-◌, arith, drop, length, take}
use Rattle.std.proofs.lemmas.Grind.{common_steps}
use Rattle.payments.proofs.SpellingLemmas.{with_sign_cents}
use Rattle.payments.proofs.spelling.size.Goals as goal

pub returns-in-Some : goal.returns-in-Some
returns-in-Some c negative =
    let behind = drop (c.in-Some.point + 1) c.args.text.now in
    let all : take (length c.args.text.now - (c.in-Some.point + 1)) behind ≡ behind = grind (arith, common_steps) in
    rw (c.sum-in-Some.ensures, c.digits-in-Some.ensures, c.hundredths.ensures, all, ← c.in-Some.ensures) (with_sign_cents negative _ _)
