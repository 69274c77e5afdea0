-- Masks, bit by bit.
use Rattle.std.proofs.Common.{◌≡◌, ◌∙◌, ◌⊎◌, inl, inr, ℕ, zero, suc, ◌+◌, ◌-◌, ◌/◌, ◌%◌, ◌*◌, ◌^◌, nat_lt, ◌<◌, ◌≤◌, ◌==◌, min, max, not, ◌&&◌, ◌||◌, Bool, true, false, cond, Some, None, refl, sym, ap, subst, arith, bit_and, bit_or}
use Rattle.std.specs.Int.{bit_at, bit_not, trailing_zeros, w128}
use Rattle.std.proofs.lemmas.Bool.{cases_lt}
use Rattle.std.proofs.lemmas.Bool.Decides.{eqb_tells, nat_tests}
use Rattle.std.proofs.lemmas.Nat.Bits.{bit_at_above, bit_at_and, bit_at_clear_other, bit_at_clear_same, bit_at_not, bit_at_or, bit_at-lt, bit_at_set_other, bit_at_set_same, bit_at_lowest, bit_at_ones, bit_at_ones_above, bit_at-suc, bit_at-trailing_zeros, bit_at-zero}
use Rattle.std.proofs.lemmas.Nat.{and_le_l, and_le_r, shr-shr}
use Rattle.std.proofs.Math.Nat.{div-le_self}
use Rattle.std.proofs.Math.Pow.{pow-lt}
use Rattle.flow_dag.specs.Masks.{has}
use Rattle.flow_worker.specs.Masks.{IsFirstFrom, IsMaskWith, IsTakenFrom}

pub has_bit : (n m i k : ℕ) → bit_at n i ≡ bit_at m k → has n i ≡ has m k
has_bit n m i k e = ap (λ b. b == 1) e

pub no_bit : (n k : ℕ) → bit_at n k ≡ 0 → has n k ≡ false
no_bit n k e = ap (λ b. b == 1) e

pub one_bit : (n k : ℕ) → bit_at n k ≡ 1 → has n k ≡ true
one_bit n k e = ap (λ b. b == 1) e

pub has_zero : (k : ℕ) → has 0 k ≡ false
has_zero k = no_bit 0 k (bit_at-zero k)

-- the number below has the bits above the lowest one, and not that one
below : (n t : ℕ) → bit_at n t ≡ 1 → ((i : ℕ) → i < t → bit_at n i ≡ 0) → (bit_at (n - 1) t ≡ 0) × ((k : ℕ) → t < k → bit_at (n - 1) k ≡ bit_at n k)
below n zero one low =
    let odd : n % 2 ≡ 1 = sym (bit_at_lowest n) ∙ one in
    let half : (n - 1) / 2 ≡ n / 2 = omega (arith, odd) in
    let even : (n - 1) % 2 ≡ 0 = omega (arith, odd) in
    (bit_at_lowest (n - 1) ∙ even, go half)
  where
    go : (n - 1) / 2 ≡ n / 2 → (k : ℕ) → 0 < k → bit_at (n - 1) k ≡ bit_at n k
    go half zero l = absurd (omega (arith, l))
    go half (suc k) l = bit_at-suc (n - 1) k ∙ (ap (λ m. bit_at m k) half ∙ sym (bit_at-suc n k))
below n (suc t) one low =
    let even : n % 2 ≡ 0 = sym (bit_at_lowest n) ∙ low 0 (omega arith) in
    let half : (n - 1) / 2 ≡ n / 2 - 1 = omega (arith, even) in
    let r = below (n / 2) t (sym (bit_at-suc n t) ∙ one) (λ i l. sym (bit_at-suc n i) ∙ low (suc i) (omega (arith, l))) in
    (bit_at-suc (n - 1) t ∙ (ap (λ m. bit_at m t) half ∙ r.0), go half r.1)
  where
    go : (n - 1) / 2 ≡ n / 2 - 1 → ((k : ℕ) → t < k → bit_at (n / 2 - 1) k ≡ bit_at (n / 2) k) → (k : ℕ) → suc t < k → bit_at (n - 1) k ≡ bit_at n k
    go half h zero l = absurd (omega (arith, l))
    go half h (suc k) l = bit_at-suc (n - 1) k ∙ (ap (λ m. bit_at m k) half ∙ (h k (omega (arith, l)) ∙ sym (bit_at-suc n k)))

-- by whether the place is the one
by_place : (place k : ℕ) (is_in : Bool) (x y : Bool) → (k ≡ place → x ≡ is_in) → ((k ≡ place → ⊥) → x ≡ y) → x ≡ cond (k == place) is_in y
by_place place k is_in x y same other = go (eqb_tells k place)
  where
    go : ((k == place) ≡ true) × (k ≡ place) ⊎ ((k == place) ≡ false) × (k ≡ place → ⊥) → x ≡ cond (k == place) is_in y
    go (inl p) = rw p.0 (same p.1)
    go (inr p) = rw p.0 (other p.1)

pub lowest_taken : (n : ℕ) → 0 < n → n < 2 ^ 128 → IsTakenFrom n (Some (trailing_zeros w128 n)) (bit_and n (n - 1))
lowest_taken n some fits =
    let low = bit_at-trailing_zeros w128 n some fits in
    let t : ℕ = trailing_zeros w128 n in
    let b = below n t low.1 low.2 in
    (low.0, one_bit n t low.1, fewer, λ k. by_place t k false (has (bit_and n (n - 1)) k) (has n k) (λ e. no_bit (bit_and n (n - 1)) k (subst (λ j. bit_at (bit_and n (n - 1)) j ≡ 0) (sym e) (gone t b.0))) (λ ne. has_bit (bit_and n (n - 1)) n k k (stays t k low.2 b.1 ne (cases_lt k t))))
  where
    gone : (t : ℕ) → bit_at (n - 1) t ≡ 0 → bit_at (bit_and n (n - 1)) t ≡ 0
    gone t e = bit_at_and n (n - 1) t ∙ omega (arith, e)

    stays : (t k : ℕ) → ((i : ℕ) → i < t → bit_at n i ≡ 0) → ((k : ℕ) → t < k → bit_at (n - 1) k ≡ bit_at n k) → (k ≡ t → ⊥) → (k < t) ⊎ (t ≤ k) → bit_at (bit_and n (n - 1)) k ≡ bit_at n k
    stays t k low above ne (inl l) = let z = low k l in bit_at_and n (n - 1) k ∙ omega (arith, z)
    stays t k low above ne (inr l) = let z = above k (omega (arith, l, ne)) in bit_at_and n (n - 1) k ∙ omega (arith, z)

    fewer : bit_and n (n - 1) < n
    fewer = let r = and_le_r n (n - 1) in omega (arith, r, some)

-- ---- places from one on

shifted : (n from k : ℕ) → bit_at (n / 2 ^ from) k ≡ bit_at n (from + k)
shifted n from k = ap (λ m. m % 2) (shr-shr n from k)

from_on : (n from k : ℕ) → from ≤ k → bit_at n k ≡ bit_at (n / 2 ^ from) (k - from)
from_on n from k l = ap (bit_at n) (let e : k ≡ from + (k - from) = omega (arith, l) in e) ∙ sym (shifted n from (k - from))

pub first_place : (n from : ℕ) → 0 < n / 2 ^ from → n / 2 ^ from < 2 ^ 128 → IsFirstFrom n from (Some (from + trailing_zeros w128 (n / 2 ^ from)))
first_place n from some fits =
    let low = bit_at-trailing_zeros w128 (n / 2 ^ from) some fits in
    let t : ℕ = trailing_zeros w128 (n / 2 ^ from) in
    (omega arith, one_bit n (from + t) (sym (shifted n from t) ∙ low.1), λ k l m. no_bit n k (from_on n from k l ∙ low.2 (k - from) (omega (arith, l, m))))

pub no_place : (n from : ℕ) → n / 2 ^ from ≡ 0 → IsFirstFrom n from None
no_place n from e k l = no_bit n k (from_on n from k l ∙ (ap (λ m. bit_at m (k - from)) e ∙ bit_at-zero (k - from)))

-- ---- a place in or out

pub put_in : (n place : ℕ) → place < 128 → IsMaskWith place true n (bit_or n (1 * 2 ^ place % 2 ^ 128))
put_in n place l k =
    let m = bit_or n (1 * 2 ^ place % 2 ^ 128) in
    by_place place k true (has m k) (has n k)
    (λ e. one_bit m k (subst (λ j. bit_at m j ≡ 1) (sym e) (bit_at_set_same w128 n place l)))
    (λ ne. has_bit m n k k (bit_at_set_other w128 n place l k ne))

pub put_out : (n place : ℕ) → place < 128 → n < 2 ^ 128 → IsMaskWith place false n (bit_and n (bit_not w128 (1 * 2 ^ place % 2 ^ 128)))
put_out n place l fits k =
    let m = bit_and n (bit_not w128 (1 * 2 ^ place % 2 ^ 128)) in
    by_place place k false (has m k) (has n k)
    (λ e. no_bit m k (subst (λ j. bit_at m j ≡ 0) (sym e) (bit_at_clear_same w128 n place l)))
    (λ ne. has_bit m n k k (go (cases_lt k 128) ne))
  where
    go : (k < 128) ⊎ (128 ≤ k) → (k ≡ place → ⊥) → bit_at (bit_and n (bit_not w128 (1 * 2 ^ place % 2 ^ 128))) k ≡ bit_at n k
    go (inl w) ne = bit_at_clear_other w128 n place l k w ne
    go (inr w) ne =
        let r = and_le_l n (bit_not w128 (1 * 2 ^ place % 2 ^ 128)) in
        bit_at_above _ 128 k (omega (arith, r, fits)) w ∙ sym (bit_at_above n 128 k fits w)

pub no_mask : (n : ℕ) → n ≡ 0 → (k : ℕ) → has n k ≡ false
no_mask n e k = ap (λ m. has m k) e ∙ has_zero k

-- ---- the first places

pub all_bits : (n k : ℕ) → n ≤ 127 → has (1 * 2 ^ n % 2 ^ 128 - 1) k ≡ nat_lt k n
all_bits n k l = ap (λ m. has (m - 1) k) whole ∙ go (cases_lt k n)
  where
    whole : 1 * 2 ^ n % 2 ^ 128 ≡ 2 ^ n
    whole = let w : n < 128 = omega (arith, l) in let p : 2 ^ n < 2 ^ 128 = pow-lt w in omega (arith, p)

    go : (k < n) ⊎ (n ≤ k) → has (2 ^ n - 1) k ≡ nat_lt k n
    go (inl w) = one_bit (2 ^ n - 1) k (bit_at_ones n k w) ∙ (let t : nat_lt k n ≡ true = grind (arith, nat_tests) in sym t)
    go (inr w) = no_bit (2 ^ n - 1) k (bit_at_ones_above n k w) ∙ (let t : nat_lt k n ≡ false = grind (arith, nat_tests) in sym t)

pub below_all : (n k : ℕ) → k < n → (m : ℕ) → has m k ≡ nat_lt k n → has m k ≡ true
below_all n k l m e = e ∙ (let t : nat_lt k n ≡ true = grind (arith, nat_tests) in t)

pub every_bit : (k : ℕ) → k < 128 → has (2 ^ 128 - 1) k ≡ true
every_bit k l = one_bit (2 ^ 128 - 1) k (bit_at_ones 128 k l)

pub less_shifted : (n from : ℕ) → n < 2 ^ 128 → n / 2 ^ from < 2 ^ 128
less_shifted n from l = let d = div-le_self n (2 ^ from) in omega (arith, d, l)

-- ---- two masks

pub has_and : (m n k : ℕ) → has (bit_and m n) k ≡ (has m k && has n k)
has_and m n k = ap (λ b. b == 1) (bit_at_and m n k) ∙ both (bit_at m k) (bit_at n k) (bit_at-lt m k) (bit_at-lt n k)
  where
    both : (x y : ℕ) → x < 2 → y < 2 → (min x y == 1) ≡ ((x == 1) && (y == 1))
    both zero zero p q = refl
    both zero (suc zero) p q = refl
    both zero (suc (suc y)) p q = absurd (omega (arith, q))
    both (suc zero) zero p q = refl
    both (suc zero) (suc zero) p q = refl
    both (suc zero) (suc (suc y)) p q = absurd (omega (arith, q))
    both (suc (suc x)) y p q = absurd (omega (arith, p))

pub has_or : (m n k : ℕ) → has (bit_or m n) k ≡ (has m k || has n k)
has_or m n k = ap (λ b. b == 1) (bit_at_or m n k) ∙ both (bit_at m k) (bit_at n k) (bit_at-lt m k) (bit_at-lt n k)
  where
    both : (x y : ℕ) → x < 2 → y < 2 → (max x y == 1) ≡ ((x == 1) || (y == 1))
    both zero zero p q = refl
    both zero (suc zero) p q = refl
    both zero (suc (suc y)) p q = absurd (omega (arith, q))
    both (suc zero) zero p q = refl
    both (suc zero) (suc zero) p q = refl
    both (suc zero) (suc (suc y)) p q = absurd (omega (arith, q))
    both (suc (suc x)) y p q = absurd (omega (arith, p))

-- a place of a mask of 128 bits that is not in another
pub has_without : (m n k : ℕ) → m < 2 ^ 128 → n < 2 ^ 128 → has (bit_and m (bit_not w128 n)) k ≡ (has m k && not (has n k))
has_without m n k fits fit = has_and m (bit_not w128 n) k ∙ go (cases_lt k 128)
  where
    flip : (x : ℕ) → x < 2 → ((1 - x) == 1) ≡ not (x == 1)
    flip zero p = refl
    flip (suc zero) p = refl
    flip (suc (suc x)) p = absurd (omega (arith, p))

    go : (k < 128) ⊎ (128 ≤ k) → (has m k && has (bit_not w128 n) k) ≡ (has m k && not (has n k))
    go (inl l) = ap (λ b. has m k && b) (ap (λ b. b == 1) (bit_at_not w128 n k fit l) ∙ flip (bit_at n k) (bit_at-lt n k))
    go (inr l) = let z : has m k ≡ false = ap (λ b. b == 1) (bit_at_above m 128 k fits l) in rw z refl

-- the same by the answer

pub put_in_as : (n place : ℕ) (b : Bool) → b ≡ true → place < 128 → IsMaskWith place b n (bit_or n (1 * 2 ^ place % 2 ^ 128))
put_in_as n place b e l = subst (λ (c : Bool). IsMaskWith place c n (bit_or n (1 * 2 ^ place % 2 ^ 128))) (sym e) (put_in n place l)

pub put_out_as : (n place : ℕ) (b : Bool) → b ≡ false → place < 128 → n < 2 ^ 128 → IsMaskWith place b n (bit_and n (bit_not w128 (1 * 2 ^ place % 2 ^ 128)))
put_out_as n place b e l fits = subst (λ (c : Bool). IsMaskWith place c n (bit_and n (bit_not w128 (1 * 2 ^ place % 2 ^ 128)))) (sym e) (put_out n place l fits)
