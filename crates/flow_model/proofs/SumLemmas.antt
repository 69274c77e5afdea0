-- Sums over lists.
use Rattle.std.proofs.Common.{◌≡◌, ◌∙◌, ◌≢◌, ◌+◌, ◌++◌, ℕ, List, [], ◌∷◌, inl, inr, refl, sym, subst, ap, arith, true, false, Bool, cond, map, flat_map, filter_map, count_by, Some, None, Option}
use Rattle.std.specs.List.{cons_option}
use Rattle.std.proofs.lemmas.List.Sums.{sum_by-append}
use Rattle.flow_model.proofs.ElementLemmas.{AreDistinct, IsIn}

-- the sum of what f gives of the items
abbrev pub sum_over : {A : Type 0} → (A → ℕ) → List A → ℕ
sum_over f [] = 0
sum_over f (x ∷ xs) = f x + sum_over f xs

pub sum_same : {A : Type 0} (f g : A → ℕ) (xs : List A) → ((x : A) → IsIn x xs → f x ≡ g x) → sum_over f xs ≡ sum_over g xs
sum_same f g [] h = refl
sum_same f g (x ∷ xs) h = omega (arith, h x (inl refl), sum_same f g xs (λ y i. h y (inr i)))

pub sum_none : {A : Type 0} (f : A → ℕ) (xs : List A) → ((x : A) → IsIn x xs → f x ≡ 0) → sum_over f xs ≡ 0
sum_none f [] h = refl
sum_none f (x ∷ xs) h = omega (arith, h x (inl refl), sum_none f xs (λ y i. h y (inr i)))

pub sum_add : {A : Type 0} (f g : A → ℕ) (xs : List A) → sum_over (λ x. f x + g x) xs ≡ sum_over f xs + sum_over g xs
sum_add f g [] = refl
sum_add f g (x ∷ xs) = omega (arith, sum_add f g xs)

pub sum_append : {A : Type 0} (f : A → ℕ) (xs ys : List A) → sum_over f (xs ++ ys) ≡ sum_over f xs + sum_over f ys
sum_append f [] ys = omega arith
sum_append f (x ∷ xs) ys = omega (arith, sum_append f xs ys)

pub sum_map : {A B : Type 0} (g : A → B) (f : B → ℕ) (xs : List A) → sum_over f (map g xs) ≡ sum_over (λ x. f (g x)) xs
sum_map g f [] = refl
sum_map g f (x ∷ xs) = omega (arith, sum_map g f xs)

pub sum_flat_map : {A B : Type 0} (g : A → List B) (f : B → ℕ) (xs : List A) → sum_over f (flat_map g xs) ≡ sum_over (λ x. sum_over f (g x)) xs
sum_flat_map g f [] = refl
sum_flat_map g f (x ∷ xs) = omega (arith, sum_append f (g x) (flat_map g xs), sum_flat_map g f xs)

abbrev pub of_some : {B : Type 0} → (B → ℕ) → Option B → ℕ
of_some f None = 0
of_some f (Some y) = f y

pub sum_filter_map : {A B : Type 0} (h : A → Option B) (f : B → ℕ) (xs : List A) → sum_over f (filter_map h xs) ≡ sum_over (λ x. of_some f (h x)) xs
sum_filter_map h f [] = refl
sum_filter_map {A} {B} h f (x ∷ xs) = go (h x) (sum_filter_map h f xs)
  where
    go : (o : Option B) → sum_over f (filter_map h xs) ≡ sum_over (λ x. of_some f (h x)) xs → sum_over f (cons_option o (filter_map h xs)) ≡ of_some f o + sum_over (λ x. of_some f (h x)) xs
    go None e = omega arith
    go (Some y) e = omega arith

-- a sum of sums in either order
pub exchange : {A B : Type 0} (f : A → B → ℕ) (xs : List A) (ys : List B) → sum_over (λ x. sum_over (f x) ys) xs ≡ sum_over (λ y. sum_over (λ x. f x y) xs) ys
exchange {A} {B} f [] ys = sym (sum_none (λ y. 0) ys (λ y i. refl))
exchange f (x ∷ xs) ys = ap (λ s. sum_over (f x) ys + s) (exchange f xs ys) ∙ sym (sum_add (f x) (λ y. sum_over (λ x. f x y) xs) ys)

-- what one item alone brings
pub sum_only : {A : Type 0} (f : A → ℕ) (x : A) (xs : List A) → AreDistinct xs → IsIn x xs → ((y : A) → IsIn y xs → y ≢ x → f y ≡ 0) → sum_over f xs ≡ f x
sum_only f x [] d i h = absurd i
sum_only f x (y ∷ ys) d (inl e) h =
    let rest : sum_over f ys ≡ 0 = sum_none f ys (λ z j. h z (inr j) (λ same. d.0 (subst (λ w. IsIn w ys) (same ∙ e) j))) in
    let here : f y ≡ f x = ap f (sym e) in
    omega arith
sum_only f x (y ∷ ys) d (inr i) h =
    let none : f y ≡ 0 = h y (inl refl) (λ same. d.0 (subst (λ w. IsIn w ys) (sym same) i)) in
    let rest : sum_over f ys ≡ f x = sum_only f x ys d.1 i (λ z j. h z (inr j)) in
    omega arith

pub if_sum : {A : Type 0} (b : Bool) (f : A → ℕ) (xs : List A) → cond b (sum_over f xs) 0 ≡ sum_over (λ x. cond b (f x) 0) xs
if_sum true f xs = refl
if_sum false f xs = sym (sum_none (λ x. 0) xs (λ x i. refl))

pub if_none : (b : Bool) → ◌≡◌ {A = ℕ} (cond b 0 0) 0
if_none true = refl
if_none false = refl

-- ---- counts of items that pass a test

pub count_append : {A : Type 0} (test : A → Bool) (xs ys : List A) → count_by test (xs ++ ys) ≡ count_by test xs + count_by test ys
count_append test xs ys = sum_by-append (λ x. cond (test x) 1 0) xs ys

pub count_one : {A : Type 0} (test : A → Bool) (x : A) → count_by test (x ∷ []) ≡ cond (test x) 1 0
count_one test x = omega arith

pub count_sum : {A : Type 0} (test : A → Bool) (xs : List A) → count_by test xs ≡ sum_over (λ x. cond (test x) 1 0) xs
count_sum test [] = refl
count_sum test (x ∷ xs) = let a = count_append test (x ∷ []) xs in let b = count_one test x in omega (arith, a, b, count_sum test xs)

pub count_flat_map : {A B : Type 0} (test : B → Bool) (g : A → List B) (xs : List A) → count_by test (flat_map g xs) ≡ sum_over (λ x. count_by test (g x)) xs
count_flat_map test g [] = refl
count_flat_map test g (x ∷ xs) = omega (arith, count_append test (g x) (flat_map g xs), count_flat_map test g xs)
