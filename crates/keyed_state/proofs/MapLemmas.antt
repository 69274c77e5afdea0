-- What holds of all entries of a map.
use Rattle.std.proofs.Common.{◌≡◌, ◌∙◌, ℕ, sym, refl, List, [], ◌∷◌, Bool, true, false, Some}
use Rattle.std.specs.List.{list_all}
use Rattle.std.specs.Ordering.{nat_cmp, is_eq}
use Rattle.std.specs.Cmp.Lexicographic.{slice_cmp}
use Rattle.std.specs.FinMap.{get, entries, find, get-entries, slice_cmp-IsAntisymmetric, nat_cmp-IsAntisymmetric}
use Rattle.keyed_state.specs.TextMap.{TextMapOf}
use Rattle.keyed_state.proofs.EntryLemmas.{is_eq_true}

module _ {V : Type 0} where
  list_all-find : (p : List ℕ × V → Bool) (es : List (List ℕ × V)) (key : List ℕ) (value : V) → list_all p es ≡ true → find (slice_cmp nat_cmp) key es ≡ Some value → p (key, value) ≡ true
  list_all-find p [] key value all found = cc
  list_all-find p (e ∷ es) key value all found = go (p e) (is_eq (slice_cmp nat_cmp key e.0)) refl refl (λ a f. list_all-find p es key value a f)
    where
      go : (a b : Bool) → p e ≡ a → is_eq (slice_cmp nat_cmp key e.0) ≡ b → (list_all p es ≡ true → find (slice_cmp nat_cmp) key es ≡ Some value → p (key, value) ≡ true) → p (key, value) ≡ true
      go false b is is_key later = let fails : false ≡ true = rw is at all in cc
      go true true is is_key later =
          let same : key ≡ e.0 = slice_cmp-IsAntisymmetric nat_cmp-IsAntisymmetric key e.0 (is_eq_true (slice_cmp nat_cmp key e.0) is_key) in
          let is_value : Some e.1 ≡ Some value = rw is_key at found in
          let held : e.1 ≡ value = cc in
          rw (same, ← held) is
      go true false is is_key later = later (rw is at all) (rw is_key at found)

  -- what all entries of a map pass, each value passes with its text
  pub list_all-get : (p : List ℕ × V → Bool) (map : TextMapOf V) (key : List ℕ) (value : V) → list_all p (entries map) ≡ true → get map key ≡ Some value → p (key, value) ≡ true
  list_all-get p map key value all found = list_all-find p (entries map) key value all (sym (get-entries map key) ∙ found)
