-- How numbers and amounts are spelled.
use Rattle.std.specs.Prelude.{◌^◌, ◌*◌, ◌+◌, ℕ, ℤ, pos, neg_ℤ, Bool, true, false, List, [], ◌∷◌}
use Rattle.std.specs.Prelude.{nat_le, nat_lt, nat_eq, Option, None, Some, take, drop, position}
use Rattle.std.specs.Prelude.{if◌then◌else◌}
use Rattle.tuple_trace.specs.Digits.{digits_of}

-- the number with this sign and size, where a signed number of 64 bits reaches so far
abbrev pub signed_of : Bool → ℕ → Option ℤ
signed_of false size = if nat_lt size (2 ^ 63) then Some (pos size) else None
signed_of true size = if nat_le size (2 ^ 63) then Some (neg_ℤ (pos size)) else None

-- the number of a size and its sign, if there is a size and 64 bits hold the number
abbrev pub with_sign : Bool → Option ℕ → Option ℤ
with_sign negative None = None
with_sign negative (Some size) = signed_of negative size

-- the text begins with a dash
abbrev pub is_negative : List ℕ → Bool
is_negative [] = false
is_negative (byte ∷ rest) = nat_eq byte 45

-- the text without its dash
abbrev pub after_sign : List ℕ → List ℕ
after_sign text = if is_negative text then drop 1 text else text

-- a number: an optional dash and digits
abbrev pub number_in_text : List ℕ → Option ℤ
number_in_text text = with_sign (is_negative text) (digits_of (after_sign text))

-- the hundredths that one or two digits behind a point stand for
abbrev pub hundredths_of : List ℕ → Option ℕ
hundredths_of [] = None
hundredths_of (tens ∷ []) = digits_of (tens ∷ 48 ∷ [])
hundredths_of (tens ∷ units ∷ []) = digits_of (tens ∷ units ∷ [])
hundredths_of (tens ∷ units ∷ more ∷ rest) = None

-- a whole part and hundredths, as cents
abbrev pub cents : Option ℕ → Option ℕ → Option ℕ
cents None part = None
cents (Some whole) None = None
cents (Some whole) (Some part) = Some (whole * 100 + part)

-- the cents of an amount without a dash, whose point stands there
abbrev pub size_at : Option ℕ → List ℕ → Option ℕ
size_at None text = cents (digits_of text) (Some 0)
size_at (Some point) text =
    cents (digits_of (take point text)) (hundredths_of (drop (point + 1) text))

-- the cents of an amount without a dash
abbrev pub size_of : List ℕ → Option ℕ
size_of text = size_at (position (λ byte. nat_eq byte 46) text) text

-- an amount: an optional dash, digits, and optionally a point with one or two digits; counted in
-- cents
abbrev pub amount_of : List ℕ → Option ℤ
amount_of text = with_sign (is_negative text) (size_of (after_sign text))
