use Rattle.std.specs.Prelude.{◌≡◌, ℕ, Bool, ◌==◌}
use Rattle.std.specs.Int.{bit_at}

-- bit `i` of the mask is set
abbrev pub Has : ℕ → ℕ → Type 0
Has mask i = bit_at mask i ≡ 1

-- the test whether bit `i` of the mask is set
abbrev pub has : ℕ → ℕ → Bool
has mask i = bit_at mask i == 1
