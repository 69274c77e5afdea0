-- Numbers in decimal digits.
use Rattle.std.specs.Prelude.{◌+◌, ◌-◌, ◌*◌, ℕ, List, [], ◌∷◌, Option, None, Some, nat_le, if◌then◌else◌}
use Rattle.std.specs.Char.{is_ascii_digit}

-- a number with one more digit
abbrev pub digit_after : ℕ → ℕ → Option ℕ
digit_after number byte = if is_ascii_digit byte then Some (10 * number + (byte - 48)) else None

-- a number with more digits
abbrev pub digits_after : Option ℕ → List ℕ → Option ℕ
digits_after None text = None
digits_after (Some number) [] = Some number
digits_after (Some number) (byte ∷ rest) = digits_after (digit_after number byte) rest

-- the number that one or more digits spell
abbrev pub digits_of : List ℕ → Option ℕ
digits_of [] = None
digits_of (byte ∷ rest) = digits_after (Some 0) (byte ∷ rest)

-- a number up to a limit
abbrev pub at_most : ℕ → Option ℕ → Option ℕ
at_most limit None = None
at_most limit (Some number) = if nat_le number limit then Some number else None
