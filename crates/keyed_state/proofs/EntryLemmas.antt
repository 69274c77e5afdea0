-- The entries of a `BTreeMap` with byte strings as keys, as a finite map.
use Rattle.std.proofs.Common.{◌≡◌, ◌∙◌, ℕ, sym, ap, refl, List, [], ◌∷◌, map, length, cond, Bool, true, false, Some, IsSome, Vec, Global, Ordering}
use Rattle.std.proofs.lemmas.List.{length-map}
use Rattle.std.specs.declared.cmp.Ordering.TheVariants.{Less, Equal, Greater}
use Rattle.std.specs.Ordering.{nat_cmp, eq_by_cmp, is_eq, match_ordering}
use Rattle.std.specs.Cmp.Lexicographic.{slice_cmp, nat_list_cmp_total}
use Rattle.std.specs.Map.{lookup, keys_of, set_value}
use Rattle.std.specs.List.{AllZip, AllByRecursion}
use Rattle.std.specs.List.Sorted.{IsStrictlySortedBy}
use Rattle.std.specs.Prelude.{vec_len}
use Rattle.std.proofs.lemmas.List.{nil_from_length}
use Rattle.std.proofs.lemmas.List.Elements.{same_from_all_zip}
use Rattle.std.specs.BTreeMap.{is_at, insert_entry}
use Rattle.std.specs.FinMap.{get, insert, get-from_entries, get-insert, same_map, slice_cmp-IsAntisymmetric, nat_cmp-IsAntisymmetric, find, entries, empty, entries-insert, put, len-entries, len-empty, len}
use Rattle.keyed_state.specs.TextMap.{map_of, shown, text_cmp}

-- the order of texts
abbrev R : List ℕ → List ℕ → Ordering
R = slice_cmp nat_cmp

-- whether a stored text is this one
abbrev pub is_text : List ℕ → Vec ℕ Global → Bool
is_text q = is_at (λ (k : Vec ℕ Global). R q k.items)

pub is_eq_true : (o : Ordering) → is_eq o ≡ true → o ≡ Equal
is_eq_true Less e = cc
is_eq_true Equal e = refl
is_eq_true Greater e = cc

-- two tests that are not both true can be asked in either order
exchanged : {X : Type 0} (a b : Bool) (x y z : X) → (a ≡ true → b ≡ true → ⊥) → cond a x (cond b y z) ≡ cond b y (cond a x z)
exchanged true true x y z h = absurd (h refl refl)
exchanged true false x y z h = refl
exchanged false true x y z h = refl
exchanged false false x y z h = refl

asked_twice : {X : Type 0} (a : Bool) (x y z : X) → cond a x z ≡ cond a x (cond a y z)
asked_twice true x y z = refl
asked_twice false x y z = refl

-- an entry with a value of V
abbrev pub Entry : Type 0 → Type 0
Entry V = Vec ℕ Global × V

module _ {V : Type 0} where
  -- what differs from a list in one value is the map with that value
  same_as_insert : (es fs : List (Entry V)) (k : List ℕ) (v : V) → ((q : List ℕ) → find R q (map shown fs) ≡ cond (eq_by_cmp R q k) (Some v) (find R q (map shown es))) → map_of fs ≡ insert (map_of es) k v
  same_as_insert es fs k v finds =
      same_map nat_list_cmp_total (slice_cmp-IsAntisymmetric nat_cmp-IsAntisymmetric) _ _ (λ q.
      get-from_entries nat_list_cmp_total (map shown fs) q ∙ finds q
      ∙ sym (get-insert nat_list_cmp_total (map_of es) k v q ∙ ap (cond (eq_by_cmp R q k) (Some v)) (get-from_entries nat_list_cmp_total (map shown es) q)))

  find-shown : (es : List (Entry V)) (q : List ℕ) → find R q (map shown es) ≡ lookup (is_text q) es
  find-shown [] q = refl
  find-shown (e ∷ es) q = ap (cond (eq_by_cmp R q e.0.items) (Some e.1)) (find-shown es q)

  pub get-map_of : (es : List (Entry V)) (q : List ℕ) → get (map_of es) q ≡ lookup (is_text q) es
  get-map_of es q = get-from_entries nat_list_cmp_total (map shown es) q ∙ find-shown es q

  find-insert_entry : (es : List (Entry V)) (k : Vec ℕ Global) (v : V) (q : List ℕ) → find R q (map shown (insert_entry text_cmp es k v)) ≡ cond (eq_by_cmp R q k.items) (Some v) (find R q (map shown es))
  find-insert_entry [] k v q = refl
  find-insert_entry (e ∷ es) k v q = go (find-insert_entry es k v q) (R k.items e.0.items) refl
    where
      go : find R q (map shown (insert_entry text_cmp es k v)) ≡ cond (eq_by_cmp R q k.items) (Some v) (find R q (map shown es)) → (o : Ordering) → R k.items e.0.items ≡ o → find R q (map shown (match_ordering (R k.items e.0.items) ((k, v) ∷ e ∷ es) ((e.0, v) ∷ es) (e ∷ insert_entry text_cmp es k v))) ≡ cond (eq_by_cmp R q k.items) (Some v) (find R q (map shown (e ∷ es)))
      go later Less p = rw p refl
      go later Equal p =
          let same : k.items ≡ e.0.items = slice_cmp-IsAntisymmetric nat_cmp-IsAntisymmetric k.items e.0.items p in
          let alike : eq_by_cmp R q k.items ≡ eq_by_cmp R q e.0.items = ap (λ x. eq_by_cmp R q x) same in
          rw (p, alike) (asked_twice (eq_by_cmp R q e.0.items) (Some v) (Some e.1) (find R q (map shown es)))
      go later Greater p =
          rw (p, later)
          (exchanged (eq_by_cmp R q e.0.items) (eq_by_cmp R q k.items) (Some e.1) (Some v) (find R q (map shown es)) (λ a b.
          let ea : R q e.0.items ≡ Equal = is_eq_true (R q e.0.items) a in
          let eb : R q k.items ≡ Equal = is_eq_true (R q k.items) b in
          let c : R q e.0.items ≡ R k.items e.0.items = nat_list_cmp_total.congr q k.items e.0.items eb in
          cc))

  -- to insert an entry is to insert it into the finite map
  pub map_of-insert_entry : (es : List (Entry V)) (k : Vec ℕ Global) (v : V) → map_of (insert_entry text_cmp es k v) ≡ insert (map_of es) k.items v
  map_of-insert_entry es k v = same_as_insert es _ k.items v (find-insert_entry es k v)

  find-set_value : (es : List (Entry V)) (k : List ℕ) (v : V) (q : List ℕ) → IsSome (lookup (is_text k) es) → find R q (map shown (set_value (is_text k) es v)) ≡ cond (eq_by_cmp R q k) (Some v) (find R q (map shown es))
  find-set_value [] k v q some = cc
  find-set_value (e ∷ es) k v q some = go (λ later. find-set_value es k v q later) (is_eq (R k e.0.items)) refl
    where
      go : (IsSome (lookup (is_text k) es) → find R q (map shown (set_value (is_text k) es v)) ≡ cond (eq_by_cmp R q k) (Some v) (find R q (map shown es))) → (b : Bool) → is_eq (R k e.0.items) ≡ b → find R q (map shown (cond (is_eq (R k e.0.items)) ((e.0, v) ∷ es) (e ∷ set_value (is_text k) es v))) ≡ cond (eq_by_cmp R q k) (Some v) (find R q (map shown (e ∷ es)))
      go later true p =
          let same : k ≡ e.0.items = slice_cmp-IsAntisymmetric nat_cmp-IsAntisymmetric k e.0.items (is_eq_true (R k e.0.items) p) in
          let alike : eq_by_cmp R q k ≡ eq_by_cmp R q e.0.items = ap (λ x. eq_by_cmp R q x) same in
          rw (p, alike) (asked_twice (eq_by_cmp R q e.0.items) (Some v) (Some e.1) (find R q (map shown es)))
      go later false p =
          let found : IsSome (lookup (is_text k) es) = rw p at some in
          rw (p, later found)
          (exchanged (eq_by_cmp R q e.0.items) (eq_by_cmp R q k) (Some e.1) (Some v) (find R q (map shown es)) (λ a b.
          let ea : R q e.0.items ≡ Equal = is_eq_true (R q e.0.items) a in
          let eb : R q k ≡ Equal = is_eq_true (R q k) b in
          let c : R q e.0.items ≡ R k e.0.items = nat_list_cmp_total.congr q k e.0.items eb in
          let d : is_eq (R k e.0.items) ≡ true = ap is_eq (sym c ∙ ea) in
          cc))

  -- to change the value of a text that is there is to insert it into the finite map
  pub map_of-set_value : (es : List (Entry V)) (k : List ℕ) (v : V) → IsSome (lookup (is_text k) es) → map_of (set_value (is_text k) es v) ≡ insert (map_of es) k v
  map_of-set_value es k v some = same_as_insert es _ k v (λ q. find-set_value es k v q some)

  -- to put an entry before greater ones
  put_first : (e : Entry V) (es : List (Entry V)) → AllByRecursion (λ y. text_cmp e.0 y ≡ Less) (keys_of es) → put R e.0.items e.1 (map shown es) ≡ shown e ∷ map shown es
  put_first e [] h = refl
  put_first e (f ∷ es) h = rw h.0 refl

  -- the finite map of entries in order has these entries
  pub entries-map_of : (es : List (Entry V)) → IsStrictlySortedBy text_cmp (keys_of es) → entries (map_of es) ≡ map shown es
  unfolding IsStrictlySortedBy
  entries-map_of [] s = nil_from_length (entries (empty {X = V} {R = R})) (sym (len-entries (empty {X = V} {R = R})) ∙ len-empty R V)
  entries-map_of (e ∷ es) s =
      entries-insert nat_list_cmp_total (map_of es) e.0.items e.1
      ∙ ap (λ xs. put R e.0.items e.1 xs) (entries-map_of es s.1)
      ∙ put_first e es s.0

  pub len-map_of : (es : List (Entry V)) → IsStrictlySortedBy text_cmp (keys_of es) → len (map_of es) ≡ length es
  len-map_of es s = len-entries (map_of es) ∙ ap length (entries-map_of es s) ∙ length-map es shown

  -- entries whose texts and values are clones show the same
  pub shown-clones :
      (C : ℕ → ℕ → Type 0) (D : V → V → Type 0) → ((x y : ℕ) → C x y → y ≡ x) → ((x y : V) → D x y → y ≡ x) →
      (es fs : List (Entry V)) → AllZip (λ p q. (AllZip C p.0.items q.0.items × (vec_len q.0 ≡ vec_len p.0)) × D p.1 q.1) es fs →
      map shown fs ≡ map shown es
  shown-clones C D c d [] [] h = refl
  shown-clones C D c d [] (f ∷ fs) h = absurd h
  shown-clones C D c d (e ∷ es) [] h = absurd h
  shown-clones C D c d (e ∷ es) (f ∷ fs) h =
      let keys : f.0.items ≡ e.0.items = same_from_all_zip C e.0.items f.0.items h.0.0.0 c in
      let values : f.1 ≡ e.1 = d e.1 f.1 h.0.1 in
      rw (keys, values, shown-clones C D c d es fs h.1) refl
