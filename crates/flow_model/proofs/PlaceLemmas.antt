-- Where an element of joined lists stands.
use Rattle.std.proofs.Common.{◌≡◌, ◌∙◌, ◌<◌, ◌+◌, ◌++◌, ℕ, zero, suc, List, [], ◌∷◌, inl, inr, refl, sym, subst, ap, arith, length, map, take, flat_map, filter_map, Some, None, Option, slice_get, length-append}
use Rattle.std.specs.List.{cons_option}
use Rattle.flow_model.proofs.WorkerLemmas.{get_append}

-- the element of one of the lists that stands at a place of all of them joined
pub record IsFrom {A B : Type 0} (f : A → List B) (xs : List A) (q : ℕ) (y : B) : Type 0 where
  pub i : ℕ
  pub x : A
  pub there : slice_get xs i ≡ Some x
  pub within : ℕ
  pub is : slice_get (f x) within ≡ Some y
  pub place : q ≡ length (flat_map f (take i xs)) + within

pub flat_map_place : {A B : Type 0} (f : A → List B) (xs : List A) (q : ℕ) (y : B) → slice_get (flat_map f xs) q ≡ Some y → IsFrom f xs q y
flat_map_place f [] q y h = absurd (cc)
flat_map_place f (x ∷ xs) q y h =
    elim (get_append (f x) (flat_map f xs) q y h) [
      | inl a ↦ record { i = 0; x = x; there = refl; within = q; is = a; place = omega arith }
      | inr b ↦
          let r : IsFrom f xs b.0 y = flat_map_place f xs b.0 y b.2 in
          record { i = suc r.i; x = r.x; there = r.there; within = r.within; is = r.is; place = omega (arith, b.1, r.place, length-append (f x) (flat_map f (take r.i xs))) }
    ]

pub append_get : {A : Type 0} (xs ys : List A) (k : ℕ) (x : A) → slice_get ys k ≡ Some x → slice_get (xs ++ ys) (length xs + k) ≡ Some x
append_get [] ys k x h = let e : 0 + k ≡ k = omega arith in rw e h
append_get (y ∷ xs) ys k x h = let e : suc (length xs) + k ≡ suc (length xs + k) = omega arith in rw e (append_get xs ys k x h)

pub get_left : {A : Type 0} (xs ys : List A) (k : ℕ) (x : A) → slice_get xs k ≡ Some x → slice_get (xs ++ ys) k ≡ Some x
get_left [] ys k x h = absurd (cc)
get_left (y ∷ xs) ys zero x h = h
get_left (y ∷ xs) ys (suc k) x h = get_left xs ys k x h

-- an element of one of the lists stands behind the lists before it
pub flat_map_get : {A B : Type 0} (f : A → List B) (xs : List A) (i j : ℕ) (x : A) (y : B) → slice_get xs i ≡ Some x → slice_get (f x) j ≡ Some y
    → slice_get (flat_map f xs) (length (flat_map f (take i xs)) + j) ≡ Some y
flat_map_get f [] i j x y g h = absurd (cc)
flat_map_get f (z ∷ xs) zero j x y g h =
    let p : z ≡ x = cc in
    let e : 0 + j ≡ j = omega arith in
    rw e (get_left (f z) (flat_map f xs) j y (subst (λ w. slice_get (f w) j ≡ Some y) (sym p) h))
flat_map_get f (z ∷ xs) (suc i) j x y g h =
    let e : length (f z ++ flat_map f (take i xs)) + j ≡ length (f z) + (length (flat_map f (take i xs)) + j) = omega (arith, length-append (f z) (flat_map f (take i xs))) in
    rw e (append_get (f z) (flat_map f xs) (length (flat_map f (take i xs)) + j) y (flat_map_get f xs i j x y g h))

-- two lists that aren't empty, and begin at one place of the joined lists, are one
pub flat_map_same : {A B : Type 0} (f : A → List B) (xs : List A) (i j : ℕ) (x y : A) → slice_get xs i ≡ Some x → slice_get xs j ≡ Some y → 0 < length (f x) → 0 < length (f y)
    → length (flat_map f (take i xs)) ≡ length (flat_map f (take j xs)) → i ≡ j
flat_map_same f [] i j x y g h a b e = absurd (cc)
flat_map_same f (z ∷ xs) zero zero x y g h a b e = refl
flat_map_same f (z ∷ xs) zero (suc j) x y g h a b e =
    let p : x ≡ z = cc in
    let k : 0 < length (f z) = subst (λ w. 0 < length (f w)) p a in
    absurd (omega (arith, length-append (f z) (flat_map f (take j xs))))
flat_map_same f (z ∷ xs) (suc i) zero x y g h a b e =
    let p : y ≡ z = cc in
    let k : 0 < length (f z) = subst (λ w. 0 < length (f w)) p b in
    absurd (omega (arith, length-append (f z) (flat_map f (take i xs))))
flat_map_same f (z ∷ xs) (suc i) (suc j) x y g h a b e =
    ap suc (flat_map_same f xs i j x y g h a b (omega (arith, length-append (f z) (flat_map f (take i xs)), length-append (f z) (flat_map f (take j xs)))))

-- the element of which the one at a place was kept
pub record IsKeptFrom {A B : Type 0} (h : A → Option B) (xs : List A) (q : ℕ) (y : B) : Type 0 where
  pub i : ℕ
  pub x : A
  pub there : slice_get xs i ≡ Some x
  pub is : h x ≡ Some y
  pub place : q ≡ length (filter_map h (take i xs))

pub filter_map_place : {A B : Type 0} (h : A → Option B) (xs : List A) (q : ℕ) (y : B) → slice_get (filter_map h xs) q ≡ Some y → IsKeptFrom h xs q y
filter_map_place h [] q y g = absurd (cc)
filter_map_place {A} {B} h (x ∷ xs) q y g = go (h x) refl q (filter_map_place h xs) g
  where
    here : (z : B) → h x ≡ Some z → (q : ℕ) → ((q : ℕ) (y : B) → slice_get (filter_map h xs) q ≡ Some y → IsKeptFrom h xs q y) → slice_get (z ∷ filter_map h xs) q ≡ Some y → IsKeptFrom h (x ∷ xs) q y
    here z e zero f g = record { i = 0; x = x; there = refl; is = let p : z ≡ y = cc in e ∙ ap Some p; place = refl }
    here z e (suc q) f g =
        let r : IsKeptFrom h xs q y = f q y g in
        record { i = suc r.i; x = r.x; there = r.there; is = r.is; place = rw e (ap suc r.place) }

    go : (o : Option B) → h x ≡ o → (q : ℕ) → ((q : ℕ) (y : B) → slice_get (filter_map h xs) q ≡ Some y → IsKeptFrom h xs q y) → slice_get (cons_option o (filter_map h xs)) q ≡ Some y → IsKeptFrom h (x ∷ xs) q y
    go None e q f g =
        let r : IsKeptFrom h xs q y = f q y g in
        record { i = suc r.i; x = r.x; there = r.there; is = r.is; place = rw e r.place }
    go (Some z) e q f g = here z e q f g

pub map_place : {A B : Type 0} (f : A → B) (xs : List A) (k : ℕ) (y : B) → slice_get (map f xs) k ≡ Some y → (x : A) × (slice_get xs k ≡ Some x) × (y ≡ f x)
map_place f [] k y h = absurd (cc)
map_place f (x ∷ xs) zero y h = (x, refl, cc)
map_place f (x ∷ xs) (suc k) y h = map_place f xs k y h
