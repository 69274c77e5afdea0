-- The numbers of a file, as a job has room for them.
use Rattle.std.specs.Prelude.{ℕ, ℤ, pos, int_lt, min, nat_abs, if◌then◌else◌}

-- the greatest number of 32 bits
abbrev pub number_max : ℕ
number_max = 4294967295

-- the number of 32 bits that is nearest
abbrev pub nearest : ℤ → ℕ
nearest z = if int_lt z (pos 0) then 0 else min number_max (nat_abs z)
