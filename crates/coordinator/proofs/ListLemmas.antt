-- Lists, place by place.
use Rattle.std.proofs.Common.{◌≡◌, ◌≢◌, ◌⊎◌, ◌∙◌, ◌<◌, ◌≤◌, ℕ, zero, suc, List, [], ◌∷◌, ◌++◌, inl, inr, refl, sym, subst, ap, arith, length, take, drop, set, Some, slice_get, append_assoc}
use Rattle.std.proofs.lemmas.Option.{same_Some}

-- each element and the one that stands in its place in the other list
abbrev pub Pairs : {A B : Type 0} → (ℕ → A → B → Type 0) → List A → List B → Type 0
Pairs {A = A} {B = B} R old now =
    (length now ≡ length old) × ((i : ℕ) (p : A) (q : B) → slice_get old i ≡ Some p → slice_get now i ≡ Some q → R i p q)

pub get_set_same : {A : Type 0} (xs : List A) (k : ℕ) (x y : A) → slice_get xs k ≡ Some x → slice_get (set xs k y) k ≡ Some y
get_set_same [] k x y h = absurd (cc)
get_set_same (z ∷ xs) zero x y h = refl
get_set_same (z ∷ xs) (suc k) x y h = get_set_same xs k x y h

pub get_set_other : {A : Type 0} (xs : List A) (k i : ℕ) (y : A) → k ≢ i → slice_get (set xs k y) i ≡ slice_get xs i
get_set_other [] k i y n = refl
get_set_other (z ∷ xs) zero zero y n = absurd (n refl)
get_set_other (z ∷ xs) zero (suc i) y n = refl
get_set_other (z ∷ xs) (suc k) zero y n = refl
get_set_other (z ∷ xs) (suc k) (suc i) y n = get_set_other xs k i y (λ e. n (ap suc e))

pub length_set : {A : Type 0} (xs : List A) (k : ℕ) (y : A) → length (set xs k y) ≡ length xs
length_set [] k y = refl
length_set (z ∷ xs) zero y = refl
length_set (z ∷ xs) (suc k) y = ap suc (length_set xs k y)

pub here_or_not : (k i : ℕ) → (k ≡ i) ⊎ (k ≢ i)
here_or_not zero zero = inl refl
here_or_not zero (suc i) = inr (λ e. absurd (omega (arith, e)))
here_or_not (suc k) zero = inr (λ e. absurd (omega (arith, e)))
here_or_not (suc k) (suc i) = elim (here_or_not k i) [ inl e ↦ inl (ap suc e) | inr n ↦ inr (λ e. n (omega (arith, e))) ]

-- one element changes
pub pairs_set : {A B : Type 0} (R S : ℕ → A → B → Type 0) (old : List A) (now : List B) (k : ℕ) (x y : B) → Pairs R old now → slice_get now k ≡ Some x
    → ((i : ℕ) (p : A) (q : B) → k ≢ i → slice_get old i ≡ Some p → R i p q → S i p q)
    → ((p : A) → slice_get old k ≡ Some p → R k p x → S k p y) → Pairs S old (set now k y)
pairs_set {A = A} {B = B} R S old now k x y h g other here = (length_set now k y ∙ h.0, λ i p q a b. go i p q a b (here_or_not k i))
  where
    go : (i : ℕ) (p : A) (q : B) → slice_get old i ≡ Some p → slice_get (set now k y) i ≡ Some q → (k ≡ i) ⊎ (k ≢ i) → S i p q
    go i p q a b (inl e) =
        let b' : slice_get (set now k y) k ≡ Some q = subst (λ j. slice_get (set now k y) j ≡ Some q) (sym e) b in
        let same : y ≡ q = same_Some y q (sym (get_set_same now k x y g) ∙ b') in
        let a' : slice_get old k ≡ Some p = subst (λ j. slice_get old j ≡ Some p) (sym e) a in
        subst (λ j. S j p q) e (subst (λ z. S k p z) same (here p a' (h.1 k p x a' g)))
    go i p q a b (inr n) = other i p q n a (h.1 i p q a (sym (get_set_other now k i y n) ∙ b))

pub pairs_map : {A : Type 0} (R S : ℕ → A → A → Type 0) (old now : List A) → Pairs R old now → ((i : ℕ) (p q : A) → R i p q → S i p q) → Pairs S old now
pairs_map R S old now h f = (h.0, λ i p q a b. f i p q (h.1 i p q a b))

-- a place of the one list is a place of the other
pub also_in : {A B : Type 0} (xs : List A) (ys : List B) (k : ℕ) → length ys ≡ length xs → k < length xs → (y : B) × (slice_get ys k ≡ Some y)
also_in {A = A} {B = B} xs ys k e lt = there ys k (omega (arith, e, lt))
  where
    there : (ys : List B) (k : ℕ) → k < length ys → (y : B) × (slice_get ys k ≡ Some y)
    there [] k lt = absurd (omega (arith, lt))
    there (y ∷ ys) zero lt = (y, refl)
    there (y ∷ ys) (suc k) lt = there ys k (omega (arith, lt))

pub also_there : {A : Type 0} (xs ys : List A) (k : ℕ) → length ys ≡ length xs → k < length xs → (y : A) × (slice_get ys k ≡ Some y)
also_there xs ys k e lt = also_in xs ys k e lt

pub drop_at : {A : Type 0} (xs : List A) (k : ℕ) (x : A) → slice_get xs k ≡ Some x → drop k xs ≡ x ∷ drop (suc k) xs
drop_at [] k x h = absurd (cc)
drop_at (y ∷ xs) zero x h = let e : y ≡ x = cc in ap (λ z. z ∷ xs) e
drop_at (y ∷ xs) (suc k) x h = drop_at xs k x h

pub take_at : {A : Type 0} (xs : List A) (k : ℕ) (x : A) → slice_get xs k ≡ Some x → take (suc k) xs ≡ take k xs ++ x ∷ []
take_at [] k x h = absurd (cc)
take_at (y ∷ xs) zero x h = let e : y ≡ x = cc in ap (λ z. z ∷ []) e
take_at (y ∷ xs) (suc k) x h = ap (λ l. y ∷ l) (take_at xs k x h)

pub drop_past : {A : Type 0} (xs : List A) (k : ℕ) → length xs ≤ k → drop k xs ≡ []
drop_past [] zero le = refl
drop_past [] (suc k) le = refl
drop_past (y ∷ xs) zero le = absurd (omega (arith, le))
drop_past (y ∷ xs) (suc k) le = drop_past xs k (omega (arith, le))

-- the feed so far and the entry that comes next
pub one_more : {A : Type 0} {all rest more : List A} {x : A} (xs : List A) → all ≡ xs ++ rest → rest ≡ x ∷ more → all ≡ (xs ++ x ∷ []) ++ more
one_more {more = more} {x = x} xs e f = e ∙ (ap (λ l. xs ++ l) f ∙ sym (append_assoc xs (x ∷ []) more))
