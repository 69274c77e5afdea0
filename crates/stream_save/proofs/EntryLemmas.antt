-- What holds of all entries that a map is made of holds of its own.
use Rattle.std.proofs.Common.{Equal, Greater, Less, Ordering, ◌≡◌, ℕ, ℤ, List, [], ◌∷◌, inl, inr, refl, sym, subst}
use Rattle.std.specs.Cmp.Lexicographic.{nat_list_cmp_total, slice_cmp}
use Rattle.std.specs.FinMap.{empty, entries, entries-insert, from_entries}
use Rattle.std.specs.FinMap.Entries.{by_order, put}
use Rattle.std.specs.Ordering.{nat_cmp}
use Rattle.keyed_state.specs.Counts.{Counts}
use Rattle.flow_model.proofs.ElementLemmas.{IsIn}
use Rattle.savepoint.proofs.StateLemmas.{none_there}

abbrev by_text : List ℕ → List ℕ → Ordering
by_text = slice_cmp nat_cmp

-- the map that these entries make
abbrev pub made : List (List ℕ × ℤ) → Counts
made es = from_entries es

module _ (K : List ℕ → Type 0) (V : ℤ → Type 0) where
  -- the key and the count of an entry are such
  abbrev pub Fit : List ℕ × ℤ → Type 0
  Fit e = K e.0 × V e.1

  fit_put : (k : List ℕ) (v : ℤ) (es : List (List ℕ × ℤ)) → Fit (k, v) → ((e : List ℕ × ℤ) → IsIn e es → Fit e) → (e : List ℕ × ℤ) → IsIn e (put by_text k v es) → Fit e
  fit_put k v [] s h e (inl p) = subst Fit (sym p) s
  fit_put k v [] s h e (inr i) = absurd i
  fit_put k v (f ∷ es) s h e i = go (by_text k f.0) i (fit_put k v es s (λ g j. h g (inr j)) e)
    where
      go : (o : Ordering) → IsIn e (by_order o ((k, v) ∷ f ∷ es) ((f.0, v) ∷ es) (f ∷ put by_text k v es)) → (IsIn e (put by_text k v es) → Fit e) → Fit e
      go Less (inl p) later = subst Fit (sym p) s
      go Less (inr j) later = h e j
      go Equal (inl p) later = subst Fit (sym p) ((h f (inl refl)).0, s.1)
      go Equal (inr j) later = h e (inr j)
      go Greater (inl p) later = subst Fit (sym p) (h f (inl refl))
      go Greater (inr j) later = later j

  pub fit_made : (es : List (List ℕ × ℤ)) → ((e : List ℕ × ℤ) → IsIn e es → Fit e) → (e : List ℕ × ℤ) → IsIn e (entries (made es)) → Fit e
  fit_made [] h e i = absurd (subst (λ (l : List (List ℕ × ℤ)). IsIn e l) (none_there empty refl) i)
  fit_made (f ∷ es) h e i =
      fit_put f.0 f.1 (entries (made es)) (h f (inl refl)) (fit_made es (λ g j. h g (inr j))) e
      (subst (λ (l : List (List ℕ × ℤ)). IsIn e l) (entries-insert nat_list_cmp_total (made es) f.0 f.1) i)
