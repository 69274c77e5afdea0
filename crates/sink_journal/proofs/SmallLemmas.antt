-- Lists that are mapped, and a text that is compared with itself.
use Rattle.std.proofs.Common.{◌≡◌, ℕ, zero, suc, List, [], ◌∷◌, Some, true, refl, ap, map, slice_get}
use Rattle.std.specs.Prelude.{bytes_eq}
use Rattle.std.proofs.lemmas.Slice.Eq.{bytes_eq-Decides}

pub get_mapped : {A B : Type 0} (f : A → B) (xs : List A) (k : ℕ) (x : A) → slice_get xs k ≡ Some x → slice_get (map f xs) k ≡ Some (f x)
get_mapped f [] k x g = absurd (cc)
get_mapped f (y ∷ xs) zero x g = let e : y ≡ x = cc in ap (λ z. Some (f z)) e
get_mapped f (y ∷ xs) (suc k) x g = get_mapped f xs k x g

pub self_text : (xs : List ℕ) → bytes_eq xs xs ≡ true
self_text xs = (bytes_eq-Decides xs xs).1 refl
