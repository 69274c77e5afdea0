-- The least number that `find` over a range found.
use Rattle.std.proofs.Common.{ℕ, ◌<◌, ◌≤◌, arith}
use Rattle.std.specs.Prelude.{Option, None, Some, MatchOption}

pub first_least :
    (P : ℕ → Type 0) (n : ℕ) (r : Option ℕ) →
    MatchOption r ((k : ℕ) → 0 ≤ k → k < n → P k → ⊥) (λ i. (0 ≤ i) × (i < n) × P i × ((k : ℕ) → 0 ≤ k → k < i → P k → ⊥)) →
    MatchOption r ((k : ℕ) → k < n → P k → ⊥) (λ i. (i < n) × P i × ((k : ℕ) → k < i → P k → ⊥))
first_least P n None found = λ k lt. found k (omega arith) lt
first_least P n (Some i) found = (found.1, found.2, λ k lt. found.3 k (omega arith) lt)
