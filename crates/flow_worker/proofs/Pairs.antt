-- Two lists, place by place.
use Rattle.std.proofs.Common.{◌≡◌, Bool, true, false, inl, inr, ℕ, zero, suc, ◌+◌, ◌<◌, ◌≤◌, List, [], ◌∷◌, set, get_or, length, refl, ap, sym, subst, arith, add-one, take, drop, ◌++◌, append_assoc, drop-cons, map}
use Rattle.std.specs.Prelude.{◌↔◌, IsTrue}
use Rattle.std.proofs.Math.Nat.{eq-or-lt_of_le}
use Rattle.std.proofs.lemmas.List.{drop-set-lt}
use Rattle.std.proofs.lemmas.Grind.{take-set_at}
use Rattle.flow_model.proofs.ElementLemmas.{IsIn}
use Rattle.flow_worker.specs.Pairs.{EachOne, EachPair, FirstPairs, sum_each}

pub first_none : {A : Type 0} (R : A → A → Type 0) (xs : List A) → FirstPairs R 0 xs xs
first_none R xs = refl

-- one more pair
pub first_more : {A : Type 0} (R : A → A → Type 0) (n : ℕ) (xs ys : List A) (d z : A) → FirstPairs R n xs ys → n < length ys → R (get_or ys n d) z → FirstPairs R (suc n) xs (set ys n z)
first_more R zero xs [] d z f l r = absurd (omega arith)
first_more R zero xs (y ∷ ys) d z f l r = subst (λ (ws : List _). FirstPairs R 1 ws (z ∷ ys)) (sym f) (r, refl)
first_more R (suc n) [] [] d z f l r = absurd (omega arith)
first_more R (suc n) [] (y ∷ ys) d z f l r = absurd f
first_more R (suc n) (x ∷ xs) [] d z f l r = absurd f
first_more R (suc n) (x ∷ xs) (y ∷ ys) d z f l r = (f.0, first_more R n xs ys d z f.1 (omega arith) r)

pub first_all : {A : Type 0} (R : A → A → Type 0) (n : ℕ) (xs ys : List A) → FirstPairs R n xs ys → length ys ≤ n → EachPair R xs ys
first_all R zero xs [] f l = subst (λ (ws : List _). EachPair R ws []) (sym f) tt
first_all R zero xs (y ∷ ys) f l = absurd (omega arith)
first_all R (suc n) [] [] f l = tt
first_all R (suc n) [] (y ∷ ys) f l = absurd f
first_all R (suc n) (x ∷ xs) [] f l = absurd f
first_all R (suc n) (x ∷ xs) (y ∷ ys) f l = (f.0, first_all R n xs ys f.1 (omega arith))

-- the element at n is as it was
pub first_next : {A : Type 0} (R : A → A → Type 0) (n : ℕ) (xs ys : List A) (d : A) → FirstPairs R n xs ys → get_or ys n d ≡ get_or xs n d
first_next R zero xs ys d f = ap (λ ws. get_or ws 0 d) (sym f)
first_next R (suc n) [] [] d f = refl
first_next R (suc n) [] (y ∷ ys) d f = absurd f
first_next R (suc n) (x ∷ xs) [] d f = absurd f
first_next R (suc n) (x ∷ xs) (y ∷ ys) d f = first_next R n xs ys d f.1

-- a write changes a sum by the difference
pub sum_set : {A : Type 0} (f : A → ℕ) (xs : List A) (n : ℕ) (d z : A) → n < length xs → sum_each f (set xs n z) + f (get_or xs n d) ≡ sum_each f xs + f z
sum_set f [] n d z l = absurd (omega arith)
sum_set f (x ∷ xs) zero d z l = swap_ends (f z) (sum_each f xs) (f x)
  where
    swap_ends : (a b c : ℕ) → (a + b) + c ≡ (c + b) + a
    swap_ends a b c = omega arith
sum_set f (x ∷ xs) (suc n) d z l = under (f x) (sum_each f (set xs n z)) (f (get_or xs n d)) (sum_each f xs) (f z) (sum_set f xs n d z (omega arith))
  where
    under : (a b c d e : ℕ) → b + c ≡ d + e → (a + b) + c ≡ (a + d) + e
    under a b c d e h = omega arith

pub sum_grows : {A : Type 0} (f : A → ℕ) (xs : List A) (n : ℕ) (d z : A) → n < length xs → f (get_or xs n d) ≤ f z → sum_each f xs ≤ sum_each f (set xs n z)
sum_grows f xs n d z l h = omega (arith, sum_set f xs n d z l)

pub sum_rises : {A : Type 0} (f : A → ℕ) (xs : List A) (n : ℕ) (d z : A) → n < length xs → f (get_or xs n d) < f z → sum_each f xs < sum_each f (set xs n z)
sum_rises f xs n d z l h = omega (arith, sum_set f xs n d z l)

pub sum_moved : {A : Type 0} (f : A → ℕ) (xs : List A) (n : ℕ) (d z : A) (moved : Bool) → n < length xs → (IsTrue moved ↔ (f (get_or xs n d) < f z)) → IsTrue moved ↔ (sum_each f xs < sum_each f (set xs n z))
sum_moved f xs n d z moved l h = ((λ t. sum_rises f xs n d z l (h.0 t)), (λ t. h.1 (omega (arith, t, sum_set f xs n d z l))))

-- a number that rises only if something moved is the same if nothing did
pub not_moved : (a b : ℕ) (moved : Bool) → a ≤ b → (IsTrue moved ↔ (a < b)) → moved ≡ false → b ≡ a
not_moved a b moved grew h still = elim (eq-or-lt_of_le grew) [
  | inl e ↦ sym e
  | inr l ↦ (let m : moved ≡ true = h.1 l in absurd (cc))
]

pub each_get : {A : Type 0} (P : A → Type 0) (xs : List A) (n : ℕ) (d : A) → EachOne P xs → n < length xs → P (get_or xs n d)
each_get P [] n d e l = absurd (omega arith)
each_get P (x ∷ xs) zero d e l = e.0
each_get P (x ∷ xs) (suc n) d e l = each_get P xs n d e.1 (omega arith)

-- ---- pairs of a weaker relation

pub first_map : {A : Type 0} (R Q : A → A → Type 0) (n : ℕ) (xs ys : List A) → ((x y : A) → R x y → Q x y) → FirstPairs R n xs ys → FirstPairs Q n xs ys
first_map R Q zero xs ys h f = f
first_map R Q (suc n) [] [] h f = tt
first_map R Q (suc n) [] (y ∷ ys) h f = absurd f
first_map R Q (suc n) (x ∷ xs) [] h f = absurd f
first_map R Q (suc n) (x ∷ xs) (y ∷ ys) h f = (h x y f.0, first_map R Q n xs ys h f.1)

pub each_same : {A : Type 0} (R : A → A → Type 0) (xs : List A) → ((x : A) → R x x) → EachPair R xs xs
each_same R [] h = tt
each_same R (x ∷ xs) h = (h x, each_same R xs h)

-- the others are related to themselves
pub first_rest : {A : Type 0} (R : A → A → Type 0) (n : ℕ) (xs ys : List A) → ((x : A) → R x x) → FirstPairs R n xs ys → EachPair R xs ys
first_rest R zero xs ys h f = subst (λ (ws : List _). EachPair R xs ws) f (each_same R xs h)
first_rest R (suc n) [] [] h f = tt
first_rest R (suc n) [] (y ∷ ys) h f = absurd f
first_rest R (suc n) (x ∷ xs) [] h f = absurd f
first_rest R (suc n) (x ∷ xs) (y ∷ ys) h f = (f.0, first_rest R n xs ys h f.1)

-- ---- a walk that rewrites each element

pub front : {A : Type 0} (xs : List A) (i : ℕ) (d : A) → i < length xs → drop i xs ≡ get_or xs i d ∷ drop (i + 1) xs
front xs i d l = let k : drop i xs ≡ get_or xs i d ∷ drop (suc i) xs = drop-cons xs i d l in rw (add-one) k

pub walk_more : {A : Type 0} (F : ℕ → List A → List A) (h : ℕ → A → A) (xs : List A) (i : ℕ) (d z : A) →
    ((a : A) (more : List A) → F i (a ∷ more) ≡ h i a ∷ F (i + 1) more) → i < length xs → z ≡ h i (get_or xs i d) →
    take i xs ++ F i (drop i xs) ≡ take (i + 1) (set xs i z) ++ F (i + 1) (drop (i + 1) (set xs i z))
walk_more F h xs i d z step l e =
    let k : drop i xs ≡ get_or xs i d ∷ drop (i + 1) xs = front xs i d l in
    let t : take (i + 1) (set xs i z) ≡ take i xs ++ z ∷ [] = take-set_at xs i (i + 1) z refl l in
    let r : drop (i + 1) (set xs i z) ≡ drop (i + 1) xs = drop-set-lt (i + 1) xs i z (omega arith) in
    rw (k, step (get_or xs i d) (drop (i + 1) xs), t, r, ← e) (sym (append_assoc (take i xs) (z ∷ []) (F (i + 1) (drop (i + 1) xs))))

pub rest_same : {A : Type 0} (xs : List A) (i : ℕ) (z : A) → drop (i + 1) (set xs i z) ≡ drop (i + 1) xs
rest_same xs i z = drop-set-lt (i + 1) xs i z (omega arith)

-- ---- pairs along three lists

pub pairs_then : {A : Type 0} (R Q S : A → A → Type 0) (xs ys zs : List A) → ((x y z : A) → R x y → Q y z → S x z) → EachPair R xs ys → EachPair Q ys zs → EachPair S xs zs
pairs_then R Q S [] [] [] h r q = tt
pairs_then R Q S [] [] (z ∷ zs) h r q = absurd q
pairs_then R Q S [] (y ∷ ys) zs h r q = absurd r
pairs_then R Q S (x ∷ xs) [] zs h r q = absurd r
pairs_then R Q S (x ∷ xs) (y ∷ ys) [] h r q = absurd q
pairs_then R Q S (x ∷ xs) (y ∷ ys) (z ∷ zs) h r q = (h x y z r.0 q.0, pairs_then R Q S xs ys zs h r.1 q.1)

pub pairs_length : {A : Type 0} (R : A → A → Type 0) (xs ys : List A) → EachPair R xs ys → length ys ≡ length xs
pairs_length R [] [] r = refl
pairs_length R [] (y ∷ ys) r = absurd r
pairs_length R (x ∷ xs) [] r = absurd r
pairs_length R (x ∷ xs) (y ∷ ys) r = ap suc (pairs_length R xs ys r.1)

-- what the pairs make of a fact of each element
pub pairs_each : {A : Type 0} (R : A → A → Type 0) (P Q : A → Type 0) (xs ys : List A) → ((x y : A) → R x y → P x → Q y) → EachPair R xs ys → EachOne P xs → EachOne Q ys
pairs_each R P Q [] [] h r e = tt
pairs_each R P Q [] (y ∷ ys) h r e = absurd r
pairs_each R P Q (x ∷ xs) [] h r e = absurd r
pairs_each R P Q (x ∷ xs) (y ∷ ys) h r e = (h x y r.0 e.0, pairs_each R P Q xs ys h r.1 e.1)

-- what the pairs keep
pub pairs_keep : {A B : Type 0} (R : A → A → Type 0) (f : A → B) (xs ys : List A) → ((x y : A) → R x y → f y ≡ f x) → EachPair R xs ys → map f ys ≡ map f xs
pairs_keep R f [] [] h r = refl
pairs_keep R f [] (y ∷ ys) h r = absurd r
pairs_keep R f (x ∷ xs) [] h r = absurd r
pairs_keep R f (x ∷ xs) (y ∷ ys) h r = cons_same (h x y r.0) (pairs_keep R f xs ys h r.1)
  where
    cons_same : {C : Type 0} {a b : C} {cs ds : List C} → a ≡ b → cs ≡ ds → a ∷ cs ≡ b ∷ ds
    cons_same p q = cc

pub each_true : {A : Type 0} (P : A → Type 0) (xs : List A) → ((x : A) → P x) → EachOne P xs
each_true P [] h = tt
each_true P (x ∷ xs) h = (h x, each_true P xs h)

-- ---- by elements

pub each_at : {A : Type 0} (P : A → Type 0) (x : A) (xs : List A) → EachOne P xs → IsIn x xs → P x
each_at P x [] e i = absurd i
each_at P x (y ∷ xs) e (inl q) = subst P (sym q) e.0
each_at P x (y ∷ xs) e (inr i) = each_at P x xs e.1 i

pub each_of : {A : Type 0} (P : A → Type 0) (xs : List A) → ((x : A) → IsIn x xs → P x) → EachOne P xs
each_of P [] f = tt
each_of P (x ∷ xs) f = (f x (inl refl), each_of P xs (λ y i. f y (inr i)))

pub each_both : {A : Type 0} (P Q : A → Type 0) (xs : List A) → EachOne P xs → EachOne Q xs → EachOne (λ x. P x × Q x) xs
each_both P Q [] a b = tt
each_both P Q (x ∷ xs) a b = ((a.0, b.0), each_both P Q xs a.1 b.1)

pub each_map : {A : Type 0} (P Q : A → Type 0) (xs : List A) → ((x : A) → P x → Q x) → EachOne P xs → EachOne Q xs
each_map P Q [] f a = tt
each_map P Q (x ∷ xs) f a = (f x a.0, each_map P Q xs f a.1)
