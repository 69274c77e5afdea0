-- The cells of a record.
use Rattle.std.proofs.Common.{◌≡◌, ℕ, List, [], ◌∷◌, None, Some, refl, drop}
use Rattle.csv.specs.Records.{field_at}

-- the first cell, as a pattern has it
pub first_some : (cells : List (List ℕ)) (cell : List ℕ) → field_at cells 0 ≡ Some cell → cells ≡ cell ∷ drop 1 cells
unfolding field_at
first_some [] cell at = absurd (cc at)
first_some (c ∷ cells) cell at = cc at

pub first_none : (cells : List (List ℕ)) → field_at cells 0 ≡ None → cells ≡ []
unfolding field_at
first_none [] at = refl
first_none (c ∷ cells) at = absurd (cc at)
