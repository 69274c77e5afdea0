-- The places of the nodes in a topological order: each edge leads from a lower place to a higher one.
use Rattle.std.proofs.Common.{◌≡◌, ℕ, ◌<◌, inl, inr, arith, List, length, get_or, Bool, true, false}
use Rattle.std.specs.Prelude.{◌==◌}
use Rattle.std.proofs.lemmas.Bool.{cases_lt}
use Rattle.std.proofs.lemmas.Bool.Decides.{Decides-eqb}
use Rattle.std.proofs.lemmas.List.Folds.{Any-from_list_any}
use Rattle.std.proofs.lemmas.List.Sums.{fails_before_first, passes_at_first}
use Rattle.flow_dag.specs.Order.{IsTopologicalOrder, place_of}

clash : {b : Bool} → b ≡ true → b ≡ false → ⊥
clash p q = cc

module _ (E : ℕ → ℕ → Type 0) (n : ℕ) (order : List ℕ) (is_order : IsTopologicalOrder E n order) where
  pub place_of-below : (a : ℕ) → a < n → place_of order a < n
  place_of-below a lt =
      elim (cases_lt (place_of order a) n) [
        | inl below ↦ below
        | inr ge ↦
            let (k, x, lk, at, e) = Any-from_list_any (λ b. b == a) order (is_order.each a lt) in
            let before : k < place_of order a = omega (arith, is_order.long) in
            absurd (clash (rw at e) (fails_before_first (λ b. b == a) order k x before))
      ]

  pub get_or-place_of : (a : ℕ) → a < n → get_or order (place_of order a) 0 ≡ a
  get_or-place_of a lt =
      let within : place_of order a < length order = omega (arith, place_of-below a lt, is_order.long) in
      (Decides-eqb (get_or order (place_of order a) 0) a).0 (passes_at_first (λ b. b == a) order 0 within)

  pub place_of-forward : (a b : ℕ) → a < n → b < n → E a b → place_of order a < place_of order b
  place_of-forward a b la lb e =
      is_order.forward (place_of order a) (place_of order b) (place_of-below a la) (place_of-below b lb)
      (rw (get_or-place_of a la, get_or-place_of b lb) e)
