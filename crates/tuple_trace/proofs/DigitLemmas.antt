-- Numbers past a limit.
use Rattle.std.proofs.Common.{◌≡◌, ◌<◌, ◌+◌, ◌-◌, ◌*◌, ◌^◌, ℕ, List, [], ◌∷◌, None, Some, true, false, refl, arith}
use Rattle.std.proofs.lemmas.Grind.{common_steps}
use Rattle.std.specs.Prelude.{if◌then◌else◌}
use Rattle.std.specs.Char.{is_ascii_digit}
use Rattle.tuple_trace.specs.Digits.{at_most, digit_after, digits_after}

at_most-past : (limit number : ℕ) → limit < number → at_most limit (Some number) ≡ None
at_most-past limit number past = grind (arith, common_steps)

-- more digits never bring a number back
digits_after-past : (limit number : ℕ) (text : List ℕ) → limit < number → at_most limit (digits_after (Some number) text) ≡ None
digits_after-past limit number [] past = at_most-past limit number past
digits_after-past limit number (byte ∷ rest) past =
    elim (is_ascii_digit byte) as (λ digit. at_most limit (digits_after (if digit then Some (10 * number + (byte - 48)) else None) rest) ≡ None) [
      | true ↦ digits_after-past limit (10 * number + (byte - 48)) rest (omega (arith, past))
      | false ↦ refl
    ]

-- a digit that a counter of 64 bits can't take leads past every limit
pub digits_after-full : (limit number byte : ℕ) (rest : List ℕ) → limit < 2 ^ 64 → at_most (2 ^ 64 - 1) (digit_after number byte) ≡ None
    → at_most limit (digits_after (Some number) (byte ∷ rest)) ≡ None
digits_after-full limit number byte rest small =
    elim (is_ascii_digit byte) as (λ digit. at_most (2 ^ 64 - 1) (if digit then Some (10 * number + (byte - 48)) else None) ≡ None
    → at_most limit (digits_after (if digit then Some (10 * number + (byte - 48)) else None) rest) ≡ None) [
      | true ↦ λ full. let past : limit < 10 * number + (byte - 48) = grind (arith, common_steps) in digits_after-past limit (10 * number + (byte - 48)) rest past
      | false ↦ λ full. refl
    ]
