-- Masks that stand beside lists.
use Rattle.std.proofs.Common.{◌≡◌, ◌∙◌, ◌⊎◌, inl, inr, ℕ, zero, suc, ◌<◌, ◌≤◌, ◌==◌, List, [], ◌∷◌, Bool, true, false, cond, Some, None, get_or, set, length, refl, sym, ap, subst, arith}
use Rattle.std.proofs.lemmas.Bool.Decides.{eqb_tells, nat_tests}
use Rattle.std.proofs.lemmas.List.{length-set}
use Rattle.flow_dag.specs.Masks.{has}
use Rattle.flow_worker.specs.Masks.{IsMaskOf, IsMaskWith, IsTakenFrom, passes}
use Rattle.flow_worker.specs.Pairs.{EachOne, EachPair}

-- ---- places that pass

pub passes_get : {A : Type 0} (p : A → Bool) (xs : List A) (k : ℕ) (d : A) → k < length xs → passes p xs k ≡ p (get_or xs k d)
passes_get p [] k d l = absurd (omega (arith, l))
passes_get p (x ∷ xs) zero d l = refl
passes_get p (x ∷ xs) (suc k) d l = passes_get p xs k d (omega (arith, l))

pub passes_within : {A : Type 0} (p : A → Bool) (xs : List A) (k : ℕ) → passes p xs k ≡ true → k < length xs
passes_within p [] k e = absurd (cc)
passes_within p (x ∷ xs) zero e = omega arith
passes_within p (x ∷ xs) (suc k) e = let l = passes_within p xs k e in omega (arith, l)

pub passes_set : {A : Type 0} (p : A → Bool) (xs : List A) (n k : ℕ) (z : A) → n < length xs → passes p (set xs n z) k ≡ cond (k == n) (p z) (passes p xs k)
passes_set p [] n k z l = absurd (omega (arith, l))
passes_set p (x ∷ xs) zero zero z l = refl
passes_set p (x ∷ xs) zero (suc k) z l = let t : (suc k == zero) ≡ false = grind (arith, nat_tests) in rw t refl
passes_set p (x ∷ xs) (suc n) zero z l = let t : (zero == suc n) ≡ false = grind (arith, nat_tests) in rw t refl
passes_set p (x ∷ xs) (suc n) (suc k) z l = passes_set p xs n k z (omega (arith, l)) ∙ ap (λ b. cond b (p z) (passes p xs k)) (same n k)
  where
    same : (n k : ℕ) → (k == n) ≡ (suc k == suc n)
    same n k = grind (arith, nat_tests)

-- the place that was written has the answer of the new item
pub mask_set : {A : Type 0} (p : A → Bool) (xs : List A) (n before after : ℕ) (z : A) (b : Bool) → n < length xs → p z ≡ b → IsMaskWith n b before after → IsMaskOf p before xs → IsMaskOf p after (set xs n z)
mask_set p xs n before after z b l e with_ is k =
    with_ k ∙ (ap (λ c. cond (k == n) b c) (is k) ∙ (ap (λ c. cond (k == n) c (passes p xs k)) (sym e) ∙ sym (passes_set p xs n k z l)))

-- the new item has the answer of the one before
pub mask_kept : {A : Type 0} (p : A → Bool) (xs : List A) (n mask : ℕ) (d z : A) → n < length xs → p z ≡ p (get_or xs n d) → IsMaskOf p mask xs → IsMaskOf p mask (set xs n z)
mask_kept p xs n mask d z l e is k = is k ∙ sym (passes_set p xs n k z l ∙ go (eqb_tells k n))
  where
    go : ((k == n) ≡ true) × (k ≡ n) ⊎ ((k == n) ≡ false) × (k ≡ n → ⊥) → cond (k == n) (p z) (passes p xs k) ≡ passes p xs k
    go (inl s) = rw s.0 (e ∙ sym (subst (λ j. passes p xs j ≡ p (get_or xs n d)) (sym s.1) (passes_get p xs n d l)))
    go (inr s) = rw s.0 refl

pub each_set : {A : Type 0} (P : A → Type 0) (xs : List A) (n : ℕ) (z : A) → EachOne P xs → P z → EachOne P (set xs n z)
each_set P [] n z e h = tt
each_set P (x ∷ xs) zero z e h = (h, e.1)
each_set P (x ∷ xs) (suc n) z e h = (e.0, each_set P xs n z e.1 h)

-- ---- pairs, place by place

-- of one item
pub one_pair : {A : Type 0} (R : A → A → Type 0) (xs : List A) (z : A) → length xs ≡ 1 → R (get_or xs 0 z) z → EachPair R xs (set xs 0 z)
one_pair R [] z e r = absurd (let n : 0 ≡ 1 = e in omega (arith, n))
one_pair R (x ∷ []) z e r = (r, tt)
one_pair R (x ∷ y ∷ more) z e r = absurd (let n : suc (suc (length more)) ≡ 1 = e in omega (arith, n))

-- where the mask has the place, it is as it was; elsewhere the two are related
pub record IsLeft {A : Type 0} (R : A → A → Type 0) (mask : ℕ) (xs ys : List A) : Type 0 where
  pub long : length ys ≡ length xs
  pub same : (k : ℕ) (d : A) → has mask k ≡ true → get_or ys k d ≡ get_or xs k d
  pub related : (k : ℕ) (d : A) → k < length xs → has mask k ≡ false → R (get_or xs k d) (get_or ys k d)

pub pairs_of : {A : Type 0} (R : A → A → Type 0) (xs ys : List A) → length ys ≡ length xs → ((k : ℕ) (d : A) → k < length xs → R (get_or xs k d) (get_or ys k d)) → EachPair R xs ys
pairs_of R [] [] e h = tt
pairs_of R [] (y ∷ ys) e h = absurd (let n : suc (length ys) ≡ 0 = e in omega (arith, n))
pairs_of R (x ∷ xs) [] e h = absurd (let n : 0 ≡ suc (length xs) = e in omega (arith, n))
pairs_of R (x ∷ xs) (y ∷ ys) e h = (h 0 x (omega arith), pairs_of R xs ys (let n : suc (length ys) ≡ suc (length xs) = e in omega (arith, n)) (λ k d l. h (suc k) d (omega (arith, l))))

pub none_left : {A : Type 0} (R : A → A → Type 0) (mask after : ℕ) (xs ys : List A) → IsTakenFrom mask None after → IsLeft R mask xs ys → EachPair R xs ys
none_left R mask after xs ys none left = pairs_of R xs ys left.long (λ k d l. left.related k d l (none k))

get_set_same : {A : Type 0} (xs : List A) (n : ℕ) (z d : A) → n < length xs → get_or (set xs n z) n d ≡ z
get_set_same [] n z d l = absurd (omega (arith, l))
get_set_same (x ∷ xs) zero z d l = refl
get_set_same (x ∷ xs) (suc n) z d l = get_set_same xs n z d (omega (arith, l))

get_set_other : {A : Type 0} (xs : List A) (n k : ℕ) (z d : A) → (k ≡ n → ⊥) → get_or (set xs n z) k d ≡ get_or xs k d
get_set_other [] n k z d ne = refl
get_set_other (x ∷ xs) zero zero z d ne = absurd (ne refl)
get_set_other (x ∷ xs) zero (suc k) z d ne = refl
get_set_other (x ∷ xs) (suc n) zero z d ne = refl
get_set_other (x ∷ xs) (suc n) (suc k) z d ne = get_set_other xs n k z d (λ e. ne (ap suc e))

get_any : {A : Type 0} (xs : List A) (k : ℕ) (d f : A) → k < length xs → get_or xs k d ≡ get_or xs k f
get_any [] k d f l = absurd (omega (arith, l))
get_any (x ∷ xs) zero d f l = refl
get_any (x ∷ xs) (suc k) d f l = get_any xs k d f (omega (arith, l))

-- the rest of a mask after a place was taken
rest_bit : (n before after k : ℕ) (b : Bool) → IsMaskWith n false before after → has after k ≡ b → ((k ≡ n) × (b ≡ false)) ⊎ ((k ≡ n → ⊥) × (has before k ≡ b))
rest_bit n before after k b with_ e = go (eqb_tells k n)
  where
    go : ((k == n) ≡ true) × (k ≡ n) ⊎ ((k == n) ≡ false) × (k ≡ n → ⊥) → ((k ≡ n) × (b ≡ false)) ⊎ ((k ≡ n → ⊥) × (has before k ≡ b))
    go (inl s) = inl (s.1, sym e ∙ (with_ k ∙ ap (λ c. cond c false (has before k)) s.0))
    go (inr s) = inr (s.1, sym (with_ k ∙ ap (λ c. cond c false (has before k)) s.0) ∙ e)

-- one place less is left
pub step_left : {A : Type 0} (R : A → A → Type 0) (n before after : ℕ) (xs ys : List A) (z : A) → IsTakenFrom before (Some n) after → n < length xs → R (get_or ys n z) z → IsLeft R before xs ys → IsLeft R after xs (set ys n z)
step_left {A = A} R n before after xs ys z taken l r left = record {
  long = length-set ys n z ∙ left.long;
  same = λ k d b. go k d (rest_bit n before after k true taken.3 b);
  related = λ k d w b. at k d w (rest_bit n before after k false taken.3 b);
}
  where
    within : n < length ys
    within = let e = left.long in omega (arith, l, e)

    go : (k : ℕ) (d : A) → ((k ≡ n) × (true ≡ false)) ⊎ ((k ≡ n → ⊥) × (has before k ≡ true)) → get_or (set ys n z) k d ≡ get_or xs k d
    go k d (inl s) = absurd (let e = s.1 in cc)
    go k d (inr s) = get_set_other ys n k z d s.0 ∙ left.same k d s.1

    first : (d : A) → R (get_or xs n d) z
    first d = subst (λ x. R x z) (get_any ys n z d within ∙ left.same n d taken.1) r

    at : (k : ℕ) (d : A) → k < length xs → ((k ≡ n) × (false ≡ false)) ⊎ ((k ≡ n → ⊥) × (has before k ≡ false)) → R (get_or xs k d) (get_or (set ys n z) k d)
    at k d w (inl s) = subst (λ j. R (get_or xs j d) (get_or (set ys n z) j d)) (sym s.0) (subst (λ y. R (get_or xs n d) y) (sym (get_set_same ys n z d within)) (first d))
    at k d w (inr s) = subst (λ y. R (get_or xs k d) y) (sym (get_set_other ys n k z d s.0)) (left.related k d w s.1)

-- what is left of a mask is in it
pub fewer_left : (n before after k : ℕ) → IsTakenFrom before (Some n) after → has after k ≡ true → has before k ≡ true
fewer_left n before after k taken b = go (rest_bit n before after k true taken.3 b)
  where
    go : ((k ≡ n) × (true ≡ false)) ⊎ ((k ≡ n → ⊥) × (has before k ≡ true)) → has before k ≡ true
    go (inl s) = absurd (let e = s.1 in cc)
    go (inr s) = s.1

-- a place outside is taken out of the mask
pub skip_left : {A : Type 0} (R : A → A → Type 0) (n before after : ℕ) (xs ys : List A) → IsTakenFrom before (Some n) after → length xs ≤ n → IsLeft R before xs ys → IsLeft R after xs ys
skip_left {A = A} R n before after xs ys taken l left = record {
  long = left.long;
  same = λ k d b. left.same k d (fewer_left n before after k taken b);
  related = λ k d w b. go k d w (rest_bit n before after k false taken.3 b);
}
  where
    go : (k : ℕ) (d : A) → k < length xs → ((k ≡ n) × (false ≡ false)) ⊎ ((k ≡ n → ⊥) × (has before k ≡ false)) → R (get_or xs k d) (get_or ys k d)
    go k d w (inl s) = absurd (let e = s.0 in omega (arith, w, l, e))
    go k d w (inr s) = left.related k d w s.1

-- all that are not in the mask are related to themselves
pub first_left : {A : Type 0} (R : A → A → Type 0) (mask : ℕ) (xs : List A) → ((k : ℕ) (d : A) → k < length xs → has mask k ≡ false → R (get_or xs k d) (get_or xs k d)) → IsLeft R mask xs xs
first_left R mask xs h = record { long = refl; same = λ k d b. refl; related = h }
