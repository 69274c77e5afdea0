-- The cells of a first record.
use Rattle.std.proofs.Common.{◌≡◌, ℕ, List, [], ◌∷◌, None, refl, arith, get_or, length, if◌then◌else◌}
use Rattle.stream_save.specs.StreamReading.{stream_head_read}
use Rattle.stream_save.specs.Steps.{head_numbers, is_first_record}

pub no_head : (cells : List (List ℕ)) → (length cells ≡ 7 → ⊥) → stream_head_read cells ≡ None
no_head [] n = refl
no_head (a ∷ []) n = refl
no_head (a ∷ b ∷ []) n = refl
no_head (a ∷ b ∷ c ∷ []) n = refl
no_head (a ∷ b ∷ c ∷ d ∷ []) n = refl
no_head (a ∷ b ∷ c ∷ d ∷ e ∷ []) n = refl
no_head (a ∷ b ∷ c ∷ d ∷ e ∷ f ∷ []) n = refl
no_head (a ∷ b ∷ c ∷ d ∷ e ∷ f ∷ g ∷ []) n = absurd (n refl)
no_head (a ∷ b ∷ c ∷ d ∷ e ∷ f ∷ g ∷ h ∷ more) n = refl

pub seven_cells : (cells : List (List ℕ)) → length cells ≡ 7 → stream_head_read cells ≡ (if is_first_record (get_or cells 0 []) (get_or cells 1 []) then head_numbers cells else None)
seven_cells [] n = absurd (omega (arith, n))
seven_cells (a ∷ []) n = absurd (omega (arith, n))
seven_cells (a ∷ b ∷ []) n = absurd (omega (arith, n))
seven_cells (a ∷ b ∷ c ∷ []) n = absurd (omega (arith, n))
seven_cells (a ∷ b ∷ c ∷ d ∷ []) n = absurd (omega (arith, n))
seven_cells (a ∷ b ∷ c ∷ d ∷ e ∷ []) n = absurd (omega (arith, n))
seven_cells (a ∷ b ∷ c ∷ d ∷ e ∷ f ∷ []) n = absurd (omega (arith, n))
seven_cells (a ∷ b ∷ c ∷ d ∷ e ∷ f ∷ g ∷ []) n = refl
seven_cells (a ∷ b ∷ c ∷ d ∷ e ∷ f ∷ g ∷ h ∷ more) n = absurd (omega (arith, n))
