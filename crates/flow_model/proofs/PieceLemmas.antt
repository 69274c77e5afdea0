-- Lists that are joined of pieces, numbered, or what passes a test.
use Rattle.std.proofs.Common.{◌≡◌, ◌≤◌, ◌+◌, ◌*◌, ◌&&◌, ℕ, zero, suc, Bool, true, false, cond, List, [], ◌∷◌, length, map, take, Some, refl, sym, ap, ◌∙◌, arith, length-append}
use Rattle.std.specs.Prelude.{filter, slice_get}
use Rattle.std.specs.List.{enumerate_from, flat_map}
use Rattle.std.proofs.Math.Nat.{suc-mul, zero-mul}

-- pieces of one length
pub length-pieces : {X A : Type 0} (f : X → List A) (k : ℕ) → ((x : X) → length (f x) ≡ k) → (xs : List X) (i : ℕ) → i ≤ length xs → length (flat_map f (take i xs)) ≡ i * k
length-pieces f k each [] zero le = sym (zero-mul k)
length-pieces f k each [] (suc i) le = absurd (omega arith)
length-pieces f k each (x ∷ xs) zero le = sym (zero-mul k)
length-pieces f k each (x ∷ xs) (suc i) le =
    length-append (f x) (flat_map f (take i xs))
    ∙ (omega (arith, each x, length-pieces f k each xs i (omega arith), suc-mul i k))

pub length-all_pieces : {X A : Type 0} (f : X → List A) (k : ℕ) → ((x : X) → length (f x) ≡ k) → (xs : List X) → length (flat_map f xs) ≡ length xs * k
length-all_pieces f k each [] = sym (zero-mul k)
length-all_pieces f k each (x ∷ xs) = length-append (f x) (flat_map f xs) ∙ omega (arith, each x, length-all_pieces f k each xs, suc-mul (length xs) k)

-- pieces of at most one length
pub length-few_pieces : {X A : Type 0} (f : X → List A) (k : ℕ) → ((x : X) → length (f x) ≤ k) → (xs : List X) → length (flat_map f xs) ≤ length xs * k
length-few_pieces f k each [] = omega (arith, zero-mul k)
length-few_pieces f k each (x ∷ xs) = omega (arith, length-append (f x) (flat_map f xs), each x, length-few_pieces f k each xs, suc-mul (length xs) k)

-- ---- numbered elements

pub get-enumerate : {A : Type 0} (n : ℕ) (xs : List A) (i m : ℕ) (x : A) → slice_get xs i ≡ Some x → m ≡ n + i → slice_get (enumerate_from n xs) i ≡ Some (m, x)
get-enumerate n [] i m x e is = absurd (cc)
get-enumerate n (a ∷ xs) zero m x e is =
    let same : a ≡ x = cc in
    let z : n ≡ m = omega (arith, is) in
    ap (λ k. Some (k, a)) z ∙ ap (λ y. Some (m, y)) same
get-enumerate n (a ∷ xs) (suc i) m x e is = get-enumerate (n + 1) xs i m x e (omega (arith, is))

pub enumerate_of_map : {A B : Type 0} (f : A → B) (n : ℕ) (xs : List A) → enumerate_from n (map f xs) ≡ map (λ p. (p.0, f p.1)) (enumerate_from n xs)
enumerate_of_map f n [] = refl
enumerate_of_map f n (x ∷ xs) = ap (λ l. (n, f x) ∷ l) (enumerate_of_map f (n + 1) xs)

-- ---- elements that pass a test

pub filter_of_map : {A B : Type 0} (test : B → Bool) (f : A → B) (xs : List A) → filter test (map f xs) ≡ map f (filter (λ x. test (f x)) xs)
filter_of_map test f [] = refl
filter_of_map test f (x ∷ xs) = go (test (f x)) (filter_of_map test f xs)
  where
    go : (b : Bool) → filter test (map f xs) ≡ map f (filter (λ x. test (f x)) xs)
        → cond b (f x ∷ filter test (map f xs)) (filter test (map f xs)) ≡ map f (cond b (x ∷ filter (λ x. test (f x)) xs) (filter (λ x. test (f x)) xs))
    go true h = ap (λ l. f x ∷ l) h
    go false h = h

pub filter_twice : {A : Type 0} (p q : A → Bool) (xs : List A) → filter q (filter p xs) ≡ filter (λ x. p x && q x) xs
filter_twice p q [] = refl
filter_twice p q (x ∷ xs) = go (p x) (filter_twice p q xs)
  where
    go : (b : Bool) → filter q (filter p xs) ≡ filter (λ x. p x && q x) xs
        → filter q (cond b (x ∷ filter p xs) (filter p xs)) ≡ cond (b && q x) (x ∷ filter (λ x. p x && q x) xs) (filter (λ x. p x && q x) xs)
    go true h = ap (λ l. cond (q x) (x ∷ l) l) h
    go false h = h
