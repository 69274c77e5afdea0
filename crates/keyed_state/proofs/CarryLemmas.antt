-- What a change of function does to the entries of a map.
use Rattle.std.proofs.Common.{◌≡◌, ◌∙◌, ap, refl, List, [], ◌∷◌, map, filter, cond, Bool, true, false}
use Rattle.std.specs.Map.Calls.{RetainsPairs}
use Rattle.std.specs.Map.{keys_of}
use Rattle.std.specs.List.Sorted.{IsStrictlySortedBy}
use Rattle.std.specs.FinMap.{entries, from_entries}
use Rattle.keyed_state.specs.TextMap.{map_of, shown, text_cmp}
use Rattle.keyed_state.proofs.EntryLemmas.{Entry, entries-map_of}

-- the entries after `retain`, where the closure answers `true` at each call and leaves `h` of the value
pub map_from_retain_pairs :
    {F K X : Type 0} (T : F → K → X → Bool → X → F → Type 0) (I : F → Type 0) (h : X → X) →
    ((g : F) (k : K) (v : X) (b : Bool) (w : X) (g' : F) → I g → T g k v b w g' → (b ≡ true) × (w ≡ h v) × I g') →
    (f : F) (es kept : List (K × X)) → I f → RetainsPairs T f es kept → kept ≡ map (λ e. (e.0, h e.1)) es
map_from_retain_pairs T I h told f [] kept i s = s
map_from_retain_pairs T I h told f (e ∷ es) kept i (b, w, f', rest, t, r, is) =
    let (kept_on, same, next) = told f e.0 e.1 b w f' i t in
    let later = map_from_retain_pairs T I h told f' es rest next r in
    is ∙ rw (kept_on, same, later) refl

module _ {V : Type 0} where
  filter-shown : (p : V → Bool) (es : List (Entry V)) → filter (λ e. p e.1) (map shown es) ≡ map shown (filter (λ e. p e.1) es)
  filter-shown p [] = refl
  filter-shown p (e ∷ es) =
      elim (p e.1) as (λ b. cond b (shown e ∷ filter (λ e. p e.1) (map shown es)) (filter (λ e. p e.1) (map shown es)) ≡ map shown (cond b (e ∷ filter (λ e. p e.1) es) (filter (λ e. p e.1) es))) [
        | true ↦ ap (λ xs. shown e ∷ xs) (filter-shown p es)
        | false ↦ filter-shown p es
      ]

  map-shown : (h : V → V) (es : List (Entry V)) → map (λ e. (e.0, h e.1)) (map shown es) ≡ map shown (map (λ e. (e.0, h e.1)) es)
  map-shown h [] = refl
  map-shown h (e ∷ es) = ap (λ xs. (e.0.items, h e.1) ∷ xs) (map-shown h es)

  pub map_of-filter : (p : V → Bool) (es : List (Entry V)) → IsStrictlySortedBy text_cmp (keys_of es) → map_of (filter (λ e. p e.1) es) ≡ from_entries (filter (λ e. p e.1) (entries (map_of es)))
  map_of-filter p es s = rw (entries-map_of es s, filter-shown p es) refl

  pub map_of-map : (h : V → V) (es : List (Entry V)) → IsStrictlySortedBy text_cmp (keys_of es) → map_of (map (λ e. (e.0, h e.1)) es) ≡ from_entries (map (λ e. (e.0, h e.1)) (entries (map_of es)))
  map_of-map h es s = rw (entries-map_of es s, map-shown h es) refl
