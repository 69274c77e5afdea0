use Rattle.std.specs.Prelude.{◌≡◌, ◌≢◌, ℕ, ◌<◌, ◌==◌, List, length, All, AllPairs, IsTrue, slice_index}
use Rattle.std.specs.List.{list_any, position_or_len}

-- the list has each of the first `n` nodes once, and every edge leads from an earlier place to a
-- later one
pub record IsTopologicalOrder (E : ℕ → ℕ → Type 0) (n : ℕ) (order : List ℕ) : Type 0 where
  pub long : length order ≡ n
  pub inside : All (λ a. a < n) order
  pub each : (a : ℕ) → a < n → IsTrue (list_any (λ b. b == a) order)
  pub once : AllPairs (λ a b. a ≢ b) order
  pub forward : (i j : ℕ) → i < n → j < n → E (slice_index order i) (slice_index order j) → i < j

-- the place of a node in an order
abbrev pub place_of : List ℕ → ℕ → ℕ
place_of order a = position_or_len (λ b. b == a) order
