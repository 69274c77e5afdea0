-- What is said of each element, said of what a function makes of them.
use Rattle.std.proofs.Common.{◌≡◌, ℕ, ◌+◌, List, [], ◌∷◌, Bool, not, ◌||◌, ◌&&◌, map, drop, take, refl, ap}
use Rattle.std.proofs.lemmas.List.{drop-map, length-map, take-map}
use Rattle.std.specs.List.{enumerate_from, list_all, list_any, position, prefix_len}
use Rattle.std.specs.Option.{option_map, option_or}
use Rattle.std.specs.Prelude.{if◌then◌else◌}
use Rattle.marker_align.specs.Decision.{next_tuple}
use Rattle.marker_align.specs.Hands.{is_tuple}
use Rattle.marker_align.specs.declared.held.Hand.{Hand}

module _ {X Y : Type 0} (f : X → Y) where
  pub list_any-map : (p : Y → Bool) (xs : List X) → list_any p (map f xs) ≡ list_any (λ x. p (f x)) xs
  list_any-map p [] = refl
  list_any-map p (x ∷ xs) = ap (λ b. p (f x) || b) (list_any-map p xs)

  pub list_all-enumerate_from-map : (p : ℕ × Y → Bool) (n : ℕ) (xs : List X) → list_all p (enumerate_from n (map f xs)) ≡ list_all (λ (i, x). p (i, f x)) (enumerate_from n xs)
  list_all-enumerate_from-map p n [] = refl
  list_all-enumerate_from-map p n (x ∷ xs) = ap (λ b. p (n, f x) && b) (list_all-enumerate_from-map p (n + 1) xs)

  prefix_len-map : (p : Y → Bool) (xs : List X) → prefix_len p (map f xs) ≡ prefix_len (λ x. p (f x)) xs
  prefix_len-map p [] = refl
  prefix_len-map p (x ∷ xs) = ap (λ n. if p (f x) then 1 + n else 0) (prefix_len-map p xs)

  pub position-map : (p : Y → Bool) (xs : List X) → position p (map f xs) ≡ position (λ x. p (f x)) xs
  position-map p xs = rw (prefix_len-map (λ y. not (p y)) xs, length-map xs f) refl

-- the first tuple in the hands that holders have, of whom some stand before the start
pub next_tuple-map : {X : Type 0} (f : X → Hand) (start : ℕ) (xs before from : List X) → before ≡ take start xs → from ≡ drop start xs → next_tuple start (map f xs)
    ≡ option_or (option_map (λ k. start + k) (position (λ x. is_tuple (f x)) from)) (position (λ x. is_tuple (f x)) before)
next_tuple-map f start xs before from front back =
    rw (back, front, drop-map f start xs, take-map f start xs, position-map f is_tuple (drop start xs), position-map f is_tuple (take start xs)) refl
