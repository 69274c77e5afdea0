-- Elements of lists, which of them stand before which, and lists without repetition.
use Rattle.std.proofs.Common.{◌≡◌, ◌<◌, ℕ, zero, suc, List, [], ◌∷◌, ◌++◌, ◌⊎◌, inl, inr, refl, sym, subst, ap, ◌∙◌, arith, true, false, Bool, cond, ◌||◌, length, get_or, map, filter, flat_map, filter_map, Some, None, Option, slice_get, All, AllPairs, Contains}
use Rattle.std.specs.List.{AllByRecursion, cons_option, list_any}
use Rattle.std.proofs.lemmas.Bool.{or_right}
use Rattle.std.proofs.lemmas.List.Elements.{All-from_recursion, recursion_from_All}

-- x is an element
abbrev pub IsIn : {A : Type 0} → A → List A → Type 0
IsIn x [] = ⊥
IsIn x (y ∷ ys) = (x ≡ y) ⊎ IsIn x ys

-- x stands somewhere before y
abbrev pub Before : {A : Type 0} → A → A → List A → Type 0
Before x y [] = ⊥
Before x y (z ∷ zs) = ((x ≡ z) × IsIn y zs) ⊎ Before x y zs

-- no two are equal
abbrev pub AreDistinct : {A : Type 0} → List A → Type 0
AreDistinct [] = Unit {0}
AreDistinct (x ∷ xs) = ¬ IsIn x xs × AreDistinct xs

-- ---- elements

pub in_left : {A : Type 0} (x : A) (xs ys : List A) → IsIn x xs → IsIn x (xs ++ ys)
in_left x [] ys h = absurd h
in_left x (z ∷ xs) ys (inl e) = inl e
in_left x (z ∷ xs) ys (inr h) = inr (in_left x xs ys h)

pub in_right : {A : Type 0} (x : A) (xs ys : List A) → IsIn x ys → IsIn x (xs ++ ys)
in_right x [] ys h = h
in_right x (z ∷ xs) ys h = inr (in_right x xs ys h)

pub in_cases : {A : Type 0} (x : A) (xs ys : List A) → IsIn x (xs ++ ys) → IsIn x xs ⊎ IsIn x ys
in_cases x [] ys h = inr h
in_cases x (z ∷ xs) ys (inl e) = inl (inl e)
in_cases x (z ∷ xs) ys (inr h) = elim (in_cases x xs ys h) [ inl a ↦ inl (inr a) | inr b ↦ inr b ]

pub in_map : {A B : Type 0} (f : A → B) (y : B) (xs : List A) → IsIn y (map f xs) → (x : A) × IsIn x xs × (y ≡ f x)
in_map f y [] h = absurd h
in_map f y (x ∷ xs) (inl e) = (x, inl refl, e)
in_map f y (x ∷ xs) (inr h) = let r = in_map f y xs h in (r.0, inr r.1, r.2)

pub map_in : {A B : Type 0} (f : A → B) (x : A) (xs : List A) → IsIn x xs → IsIn (f x) (map f xs)
map_in f x [] h = absurd h
map_in f x (z ∷ xs) (inl e) = inl (ap f e)
map_in f x (z ∷ xs) (inr h) = inr (map_in f x xs h)

pub in_flat_map : {A B : Type 0} (f : A → List B) (y : B) (xs : List A) → IsIn y (flat_map f xs) → (x : A) × IsIn x xs × IsIn y (f x)
in_flat_map f y [] h = absurd h
in_flat_map f y (x ∷ xs) h =
    elim (in_cases y (f x) (flat_map f xs) h) [
      | inl a ↦ (x, inl refl, a)
      | inr b ↦ let r = in_flat_map f y xs b in (r.0, inr r.1, r.2)
    ]

pub flat_map_in : {A B : Type 0} (f : A → List B) (x : A) (y : B) (xs : List A) → IsIn x xs → IsIn y (f x) → IsIn y (flat_map f xs)
flat_map_in f x y [] h i = absurd h
flat_map_in f x y (z ∷ xs) (inl e) i = in_left y (f z) (flat_map f xs) (subst (λ w. IsIn y (f w)) e i)
flat_map_in f x y (z ∷ xs) (inr h) i = in_right y (f z) (flat_map f xs) (flat_map_in f x y xs h i)

pub in_filter : {A : Type 0} (test : A → Bool) (x : A) (xs : List A) → IsIn x (filter test xs) → IsIn x xs × (test x ≡ true)
in_filter test x [] h = absurd h
in_filter test x (y ∷ xs) h = go (test y) refl (in_filter test x xs) h
  where
    go : (b : Bool) → test y ≡ b → (IsIn x (filter test xs) → IsIn x xs × (test x ≡ true)) → IsIn x (cond b (y ∷ filter test xs) (filter test xs)) → IsIn x (y ∷ xs) × (test x ≡ true)
    go true e f (inl p) = (inl p, ap test p ∙ e)
    go true e f (inr j) = let r = f j in (inr r.0, r.1)
    go false e f j = let r = f j in (inr r.0, r.1)

pub filter_in : {A : Type 0} (test : A → Bool) (x : A) (xs : List A) → IsIn x xs → test x ≡ true → IsIn x (filter test xs)
filter_in test x [] h t = absurd h
filter_in test x (y ∷ xs) (inl p) t = let e : test y ≡ true = ap test (sym p) ∙ t in rw e (inl p)
filter_in test x (y ∷ xs) (inr h) t = go (test y) (filter_in test x xs h t)
  where
    go : (b : Bool) → IsIn x (filter test xs) → IsIn x (cond b (y ∷ filter test xs) (filter test xs))
    go true i = inr i
    go false i = i

pub in_filter_map : {A B : Type 0} (h : A → Option B) (y : B) (xs : List A) → IsIn y (filter_map h xs) → (x : A) × IsIn x xs × (h x ≡ Some y)
in_filter_map h y [] i = absurd i
in_filter_map {A} {B} h y (x ∷ xs) i = go (h x) refl (in_filter_map h y xs) i
  where
    go : (o : Option B) → h x ≡ o → (IsIn y (filter_map h xs) → (z : A) × IsIn z xs × (h z ≡ Some y)) → IsIn y (cons_option o (filter_map h xs)) → (z : A) × IsIn z (x ∷ xs) × (h z ≡ Some y)
    go None e f i = let r = f i in (r.0, inr r.1, r.2)
    go (Some z) e f (inl p) = (x, inl refl, e ∙ ap Some (sym p))
    go (Some z) e f (inr j) = let r = f j in (r.0, inr r.1, r.2)

pub filter_map_in : {A B : Type 0} (h : A → Option B) (x : A) (y : B) (xs : List A) → IsIn x xs → h x ≡ Some y → IsIn y (filter_map h xs)
filter_map_in h x y [] i e = absurd i
filter_map_in h x y (z ∷ xs) (inl p) e = let q : h z ≡ Some y = ap h (sym p) ∙ e in rw q (inl refl)
filter_map_in {A} {B} h x y (z ∷ xs) (inr i) e = go (h z) (filter_map_in h x y xs i e)
  where
    go : (o : Option B) → IsIn y (filter_map h xs) → IsIn y (cons_option o (filter_map h xs))
    go None j = j
    go (Some w) j = inr j

-- an element that passes a test
pub any_in : {A : Type 0} (test : A → Bool) (xs : List A) → list_any test xs ≡ true → (x : A) × IsIn x xs × (test x ≡ true)
any_in test [] h = absurd (cc)
any_in {A} test (x ∷ xs) h = go (test x) refl (any_in test xs) h
  where
    go : (b : Bool) → test x ≡ b → (list_any test xs ≡ true → (y : A) × IsIn y xs × (test y ≡ true)) → b || list_any test xs ≡ true → (y : A) × IsIn y (x ∷ xs) × (test y ≡ true)
    go true e f h = (x, inl refl, e)
    go false e f h = let r = f h in (r.0, inr r.1, r.2)

pub in_any : {A : Type 0} (test : A → Bool) (x : A) (xs : List A) → IsIn x xs → test x ≡ true → list_any test xs ≡ true
in_any test x [] i e = absurd i
in_any test x (y ∷ ys) (inl p) e = let q : test y ≡ true = ap test (sym p) ∙ e in rw q refl
in_any test x (y ∷ ys) (inr i) e = or_right (test y) (list_any test ys) (in_any test x ys i e)

-- ---- elements by their places

pub place_of_in : {A : Type 0} (x : A) (xs : List A) → IsIn x xs → (k : ℕ) × (slice_get xs k ≡ Some x)
place_of_in x [] h = absurd h
place_of_in x (y ∷ xs) (inl e) = (0, ap Some (sym e))
place_of_in x (y ∷ xs) (inr h) = let r = place_of_in x xs h in (suc r.0, r.1)

pub in_of_place : {A : Type 0} (x : A) (xs : List A) (k : ℕ) → slice_get xs k ≡ Some x → IsIn x xs
in_of_place x [] k h = absurd (cc)
in_of_place x (y ∷ xs) zero h = inl (cc)
in_of_place x (y ∷ xs) (suc k) h = inr (in_of_place x xs k h)

pub in_of_contains : {A : Type 0} (x : A) (xs : List A) → Contains xs x → IsIn x xs
in_of_contains x [] (k, lt, is) = absurd (omega arith)
in_of_contains x (y ∷ xs) (zero, lt, is) = inl (sym is)
in_of_contains x (y ∷ xs) (suc k, lt, is) = inr (in_of_contains x xs (k, omega arith, is))

pub contains_of_in : {A : Type 0} (x : A) (xs : List A) → IsIn x xs → Contains xs x
contains_of_in x [] h = absurd h
contains_of_in x (y ∷ xs) (inl e) = (0, omega arith, sym e)
contains_of_in x (y ∷ xs) (inr h) = let (k, lt, is) = contains_of_in x xs h in (suc k, omega (arith, lt), is)

-- ---- what holds of each

pub all_at : {A : Type 0} (P : A → Type 0) (x : A) (xs : List A) → AllByRecursion P xs → IsIn x xs → P x
all_at P x [] e h = absurd h
all_at P x (z ∷ xs) e (inl p) = subst P (sym p) e.0
all_at P x (z ∷ xs) e (inr h) = all_at P x xs e.1 h

pub all_of : {A : Type 0} (P : A → Type 0) (xs : List A) → ((x : A) → IsIn x xs → P x) → AllByRecursion P xs
all_of P [] h = tt
all_of P (z ∷ xs) h = (h z (inl refl), all_of P xs (λ x i. h x (inr i)))

pub at_of_all : {A : Type 0} (P : A → Type 0) (x : A) (xs : List A) → All P xs → IsIn x xs → P x
at_of_all P x xs a h = all_at P x xs (recursion_from_All P xs a) h

pub all_of_at : {A : Type 0} (P : A → Type 0) (xs : List A) → ((x : A) → IsIn x xs → P x) → All P xs
all_of_at P xs h = All-from_recursion P xs (all_of P xs h)

-- ---- before

pub before_second : {A : Type 0} (x y : A) (zs : List A) → Before x y zs → IsIn y zs
before_second x y [] b = absurd b
before_second x y (z ∷ zs) (inl h) = inr h.1
before_second x y (z ∷ zs) (inr b) = inr (before_second x y zs b)

pub before_first : {A : Type 0} (x y : A) (zs : List A) → Before x y zs → IsIn x zs
before_first x y [] b = absurd b
before_first x y (z ∷ zs) (inl h) = inl h.0
before_first x y (z ∷ zs) (inr b) = inr (before_first x y zs b)

pub before_cases : {A : Type 0} (x y : A) (xs ys : List A) → Before x y (xs ++ ys) → Before x y xs ⊎ (Before x y ys ⊎ (IsIn x xs × IsIn y ys))
before_cases x y [] ys b = inr (inl b)
before_cases x y (z ∷ xs) ys (inl h) =
    elim (in_cases y xs ys h.1) [ inl a ↦ inl (inl (h.0, a)) | inr c ↦ inr (inr (inl h.0, c)) ]
before_cases x y (z ∷ xs) ys (inr b) =
    elim (before_cases x y xs ys b) [ inl a ↦ inl (inr a) | inr (inl c) ↦ inr (inl c) | inr (inr d) ↦ inr (inr (inr d.0, d.1)) ]

pub before_right : {A : Type 0} (x y : A) (xs ys : List A) → Before x y ys → Before x y (xs ++ ys)
before_right x y [] ys b = b
before_right x y (z ∷ xs) ys b = inr (before_right x y xs ys b)

pub before_both : {A : Type 0} (x y : A) (xs ys : List A) → IsIn x xs → IsIn y ys → Before x y (xs ++ ys)
before_both x y [] ys h k = absurd h
before_both x y (z ∷ xs) ys (inl e) k = inl (e, in_right y xs ys k)
before_both x y (z ∷ xs) ys (inr h) k = inr (before_both x y xs ys h k)

-- all pairs are related where each element is related to each one behind it
pub pair_of_all : {A : Type 0} (R : A → A → Type 0) (x y : A) (zs : List A) → AllPairs R zs → Before x y zs → R x y
pair_of_all R x y [] all b = absurd b
pair_of_all R x y (z ∷ zs) all (inl h) =
    let c = contains_of_in y zs h.1 in
    let r : R z (get_or zs c.0 y) = all 0 (suc c.0) y (omega arith) (omega (arith, c.1)) in
    subst (λ w. R w y) (sym h.0) (subst (λ w. R z w) c.2 r)
pair_of_all R x y (z ∷ zs) all (inr b) = pair_of_all R x y zs (λ i j d lt lj. all (suc i) (suc j) d (omega arith) (omega arith)) b

within_in : {A : Type 0} (xs : List A) (k : ℕ) (d : A) → k < length xs → IsIn (get_or xs k d) xs
within_in [] k d lt = absurd (omega arith)
within_in (x ∷ xs) zero d lt = inl refl
within_in (x ∷ xs) (suc k) d lt = inr (within_in xs k d (omega arith))

pub all_of_pairs : {A : Type 0} (R : A → A → Type 0) (zs : List A) → ((x y : A) → Before x y zs → R x y) → AllPairs R zs
all_of_pairs R [] f i j d lt lj = absurd (omega arith)
all_of_pairs R (z ∷ zs) f i zero d lt lj = absurd (omega arith)
all_of_pairs R (z ∷ zs) f zero (suc j) d lt lj = f z (get_or zs j d) (inl (refl, within_in zs j d (omega arith)))
all_of_pairs R (z ∷ zs) f (suc i) (suc j) d lt lj = all_of_pairs R zs (λ x y b. f x y (inr b)) i j d (omega arith) (omega arith)

-- ---- lists without repetition

pub distinct_append : {A : Type 0} (xs ys : List A) → AreDistinct xs → AreDistinct ys → ((x : A) → IsIn x xs → ¬ IsIn x ys) → AreDistinct (xs ++ ys)
distinct_append [] ys a b f = b
distinct_append (x ∷ xs) ys a b f =
    ((λ i. elim (in_cases x xs ys i) [ inl j ↦ a.0 j | inr j ↦ f x (inl refl) j ]), distinct_append xs ys a.1 b (λ z i. f z (inr i)))

pub distinct_map : {A B : Type 0} (f : A → B) (xs : List A) → ((x y : A) → IsIn x xs → IsIn y xs → f x ≡ f y → x ≡ y) → AreDistinct xs → AreDistinct (map f xs)
distinct_map f [] g a = tt
distinct_map f (x ∷ xs) g a = (
  (λ i. let r = in_map f (f x) xs i in a.0 (subst (λ z. IsIn z xs) (sym (g x r.0 (inl refl) (inr r.1) r.2)) r.1)),
  distinct_map f xs (λ y z i j e. g y z (inr i) (inr j) e) a.1,
)

pub distinct_filter : {A : Type 0} (test : A → Bool) (xs : List A) → AreDistinct xs → AreDistinct (filter test xs)
distinct_filter test [] a = tt
distinct_filter test (x ∷ xs) a = go (test x) (distinct_filter test xs a.1)
  where
    go : (b : Bool) → AreDistinct (filter test xs) → AreDistinct (cond b (x ∷ filter test xs) (filter test xs))
    go true d = ((λ i. a.0 (in_filter test x xs i).0), d)
    go false d = d

-- joined lists have no repetition where each has none, and no two share an element
pub distinct_flat_map : {A B : Type 0} (f : A → List B) (xs : List A) → AreDistinct xs → ((x : A) → IsIn x xs → AreDistinct (f x))
    → ((x z : A) (y : B) → IsIn x xs → IsIn z xs → IsIn y (f x) → IsIn y (f z) → x ≡ z) → AreDistinct (flat_map f xs)
distinct_flat_map f [] a each one = tt
distinct_flat_map f (x ∷ xs) a each one =
    distinct_append (f x) (flat_map f xs) (each x (inl refl)) (distinct_flat_map f xs a.1 (λ z i. each z (inr i)) (λ z w y i j. one z w y (inr i) (inr j)))
    (λ y i j. let r = in_flat_map f y xs j in a.0 (subst (λ z. IsIn z xs) (sym (one x r.0 y (inl refl) (inr r.1) i r.2)) r.1))

-- two places with the same element are the same place
pub same_place : {A : Type 0} (x : A) (i j : ℕ) (xs : List A) → AreDistinct xs → slice_get xs i ≡ Some x → slice_get xs j ≡ Some x → i ≡ j
same_place x i j [] d g h = absurd (cc)
same_place x zero zero (y ∷ ys) d g h = refl
same_place x zero (suc j) (y ∷ ys) d g h = let e : y ≡ x = cc in absurd (d.0 (subst (λ z. IsIn z ys) (sym e) (in_of_place x ys j h)))
same_place x (suc i) zero (y ∷ ys) d g h = let e : y ≡ x = cc in absurd (d.0 (subst (λ z. IsIn z ys) (sym e) (in_of_place x ys i g)))
same_place x (suc i) (suc j) (y ∷ ys) d g h = ap suc (same_place x i j ys d.1 g h)

pub distinct_by_place : {A : Type 0} (xs : List A) → ((i j : ℕ) (x : A) → slice_get xs i ≡ Some x → slice_get xs j ≡ Some x → i ≡ j) → AreDistinct xs
distinct_by_place [] f = tt
distinct_by_place (x ∷ xs) f = (
  (λ h. let r = place_of_in x xs h in let e : 0 ≡ suc r.0 = f 0 (suc r.0) x refl r.1 in absurd (omega arith)),
  distinct_by_place xs (λ i j y g h. let e : suc i ≡ suc j = f (suc i) (suc j) y g h in omega arith),
)

pub distinct_pairs : {A : Type 0} (xs : List A) → AreDistinct xs → AllPairs (λ a b. a ≡ b → ⊥) xs
distinct_pairs xs d = all_of_pairs (λ a b. a ≡ b → ⊥) xs (apart xs d)
  where
    apart : {A : Type 0} (zs : List A) → AreDistinct zs → (x y : A) → Before x y zs → x ≡ y → ⊥
    apart [] d x y b e = b
    apart (z ∷ zs) d x y (inl h) e = d.0 (subst (λ w. IsIn w zs) (sym e ∙ h.0) h.1)
    apart (z ∷ zs) d x y (inr b) e = apart zs d.1 x y b e

-- ---- joined lists

pub before_flat_map : {A B : Type 0} (f : A → List B) (x y : A) (a b : B) (xs : List A) → Before x y xs → IsIn a (f x) → IsIn b (f y) → Before a b (flat_map f xs)
before_flat_map f x y a b [] h i j = absurd h
before_flat_map f x y a b (z ∷ zs) (inl h) i j = before_both a b (f z) (flat_map f zs) (subst (λ w. IsIn a (f w)) h.0 i) (flat_map_in f y b zs h.1 j)
before_flat_map f x y a b (z ∷ zs) (inr h) i j = before_right a b (f z) (flat_map f zs) (before_flat_map f x y a b zs h i j)

-- two elements of joined lists are of one list, or of two in this order
pub flat_map_before : {A B : Type 0} (f : A → List B) (a b : B) (xs : List A) → Before a b (flat_map f xs)
    → ((x : A) × IsIn x xs × Before a b (f x)) ⊎ ((x : A) × (y : A) × Before x y xs × IsIn a (f x) × IsIn b (f y))
flat_map_before f a b [] h = absurd h
flat_map_before f a b (z ∷ zs) h =
    elim (before_cases a b (f z) (flat_map f zs) h) [
      | inl i ↦ inl (z, inl refl, i)
      | inr (inl i) ↦ elim (flat_map_before f a b zs i) [
        | inl c ↦ inl (c.0, inr c.1, c.2)
        | inr c ↦ inr (c.0, c.1, inr c.2, c.3, c.4)
      ]
      | inr (inr i) ↦ let r = in_flat_map f b zs i.1 in inr (z, r.0, inl (refl, r.1), i.0, r.2)
    ]
