-- The items of a list with their places.
use Rattle.std.specs.Prelude.{◌≡◌, ℕ, ◌<◌, Bool, false, IsTrue, List, MatchOption, Option, Some, slice_get}

-- each item is so, with its place
abbrev pub Each : {A : Type 0} → (ℕ → A → Type 0) → List A → Type 0
Each P xs = (i : ℕ) (x : _) → slice_get xs i ≡ Some x → P i x

-- there is an item at the place, and it is so
abbrev pub IsAt : {A : Type 0} → List A → ℕ → (A → Type 0) → Type 0
IsAt xs i P = (x : _) × (slice_get xs i ≡ Some x) × P x

-- each item passes the test, with its place
abbrev pub EachPasses : {A : Type 0} → (ℕ → A → Bool) → List A → Type 0
EachPasses test xs = Each (λ i x. IsTrue (test i x)) xs

-- the item at the place fails the test, and each before it passes
abbrev pub IsFirstFailure : {A : Type 0} → (ℕ → A → Bool) → List A → ℕ → Type 0
IsFirstFailure test xs i =
    IsAt xs i (λ x. test i x ≡ false)
    × ((k : ℕ) (x : _) → k < i → slice_get xs k ≡ Some x → IsTrue (test k x))

-- the answer is the place of the first item that fails the test, and none where each passes
abbrev pub FindsFailure : {A : Type 0} → (ℕ → A → Bool) → List A → Option ℕ → Type 0
FindsFailure test xs answer = MatchOption answer (EachPasses test xs) (IsFirstFailure test xs)
