-- A size past the greatest counter is out of range.
use Rattle.std.proofs.Common.{◌≡◌, ◌+◌, ◌*◌, ◌-◌, ◌^◌, ℕ, Option, None, Some, Bool, true, false, refl, ap, arith}
use Rattle.std.proofs.lemmas.Grind.{common_steps}
use Rattle.tuple_trace.specs.Digits.{at_most}
use Rattle.payments.specs.Spelling.{cents, signed_of, with_sign}

signed_of-at_most : (negative : Bool) (size : ℕ) → with_sign negative (at_most (2 ^ 64 - 1) (Some size)) ≡ signed_of negative size
signed_of-at_most false size = grind (arith, common_steps)
signed_of-at_most true size = grind (arith, common_steps)

pub with_sign_at_most : (negative : Bool) (size : Option ℕ) → with_sign negative (at_most (2 ^ 64 - 1) size) ≡ with_sign negative size
with_sign_at_most negative None = refl
with_sign_at_most negative (Some size) = signed_of-at_most negative size

signed_of-cents : (negative : Bool) (whole part : ℕ)
    → with_sign negative (cents (at_most (2 ^ 64 - 1) (Some whole)) (Some part)) ≡ signed_of negative (whole * 100 + part)
signed_of-cents false whole part = grind (arith, common_steps)
signed_of-cents true whole part = grind (arith, common_steps)

cents-none : (whole : Option ℕ) → cents whole None ≡ None
cents-none None = refl
cents-none (Some whole) = refl

pub with_sign_cents : (negative : Bool) (whole part : Option ℕ)
    → with_sign negative (cents (at_most (2 ^ 64 - 1) whole) part) ≡ with_sign negative (cents whole part)
with_sign_cents negative None part = refl
with_sign_cents negative (Some whole) None = ap (with_sign negative) (cents-none (at_most (2 ^ 64 - 1) (Some whole)))
with_sign_cents negative (Some whole) (Some part) = signed_of-cents negative whole part
