-- The four cells of a record.
use Rattle.std.proofs.Common.{◌≡◌, ℕ, List, [], ◌∷◌, refl, arith, get_or, length}

pub four_cells : (cells : List (List ℕ)) → length cells ≡ 4 → cells ≡ get_or cells 0 [] ∷ get_or cells 1 [] ∷ get_or cells 2 [] ∷ get_or cells 3 [] ∷ []
four_cells [] n = absurd (omega (arith, n))
four_cells (a ∷ []) n = absurd (omega (arith, n))
four_cells (a ∷ b ∷ []) n = absurd (omega (arith, n))
four_cells (a ∷ b ∷ c ∷ []) n = absurd (omega (arith, n))
four_cells (a ∷ b ∷ c ∷ d ∷ []) n = refl
four_cells (a ∷ b ∷ c ∷ d ∷ e ∷ more) n = absurd (omega (arith, n))
