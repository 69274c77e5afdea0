-- Lemmas on which bits a mask has.
use Rattle.std.proofs.Common.{◌≡◌, ◌∙◌, ℕ, ◌<◌, ◌≤◌, ◌^◌, ◌↔◌, ◌⊎◌, inl, inr, max, min, sym, arith, bit_or, bit_and}
use Rattle.std.specs.Int.{bit_at, w64, trailing_zeros}
use Rattle.std.proofs.lemmas.Nat.Bits.{bit_at_or, bit_at_and, bit_at-lt, bit_at-zero, bit_at_above, bit_at-trailing_zeros}
use Rattle.std.proofs.lemmas.Bool.{cases_eq, cases_lt}
use Rattle.std.proofs.lemmas.Nat.{or_lt}
use Rattle.std.proofs.Math.Pow.{pow-lt}
use Rattle.std.proofs.lemmas.Bool.Decides.{Decides-eqb}
use Rattle.std.specs.Prelude.{IsTrue}
use Rattle.flow_dag.specs.Masks.{Has, has}

-- one number, as the greater of two bits
max_bit : (x y : ℕ) → x < 2 → y < 2 → (max x y ≡ 1 → (x ≡ 1) ⊎ (y ≡ 1))
max_bit x y hx hy e = grind arith

bit_max : (x y : ℕ) → x < 2 → y < 2 → (x ≡ 1) ⊎ (y ≡ 1) → max x y ≡ 1
bit_max x y hx hy e = grind arith

pub Has-or_cases : (m n i : ℕ) → Has (bit_or m n) i → Has m i ⊎ Has n i
Has-or_cases m n i h = max_bit (bit_at m i) (bit_at n i) (bit_at-lt m i) (bit_at-lt n i) (sym (bit_at_or m n i) ∙ h)

pub Has-or : (m n i : ℕ) → Has m i ⊎ Has n i → Has (bit_or m n) i
Has-or m n i h = bit_at_or m n i ∙ bit_max (bit_at m i) (bit_at n i) (bit_at-lt m i) (bit_at-lt n i) h

min_bit : (x y : ℕ) → x < 2 → y < 2 → min x y ≡ 1 → (x ≡ 1) × (y ≡ 1)
min_bit x y hx hy e = (omega arith, omega arith)

pub Has-and_both : (m n i : ℕ) → Has (bit_and m n) i → Has m i × Has n i
Has-and_both m n i h = min_bit (bit_at m i) (bit_at n i) (bit_at-lt m i) (bit_at-lt n i) (sym (bit_at_and m n i) ∙ h)

pub Has-and : (m n i : ℕ) → Has m i → Has n i → Has (bit_and m n) i
Has-and m n i h g = let one : min (bit_at m i) (bit_at n i) ≡ 1 = omega (arith, h, g) in bit_at_and m n i ∙ one

-- the same, where a fact says which bits the second mask has
pub Has-or_with : (P : Type 0) (m n i : ℕ) → Has n i ↔ P → Has (bit_or m n) i ↔ (Has m i ⊎ P)
Has-or_with P m n i is = (
  λ h. elim (Has-or_cases m n i h) [ inl u ↦ inl u | inr v ↦ inr (is.0 v) ],
  λ s. Has-or m n i (elim s [ inl u ↦ inl u | inr v ↦ inr (is.1 v) ]),
)

pub Has-and_with : (P : Type 0) (m n i : ℕ) → Has n i ↔ P → Has (bit_and m n) i ↔ (Has m i × P)
Has-and_with P m n i is = (
  λ h. let b = Has-and_both m n i h in (b.0, is.0 b.1),
  λ (h, p). Has-and m n i h (is.1 p),
)

pub Has-none : (i : ℕ) → Has 0 i → ⊥
Has-none i h = omega (arith, bit_at-zero i, h)

pub Has-some : (m : ℕ) → m < 2 ^ 64 → (m ≡ 0 → ⊥) → (i : ℕ) × Has m i
Has-some m fits ne =
    let low = bit_at-trailing_zeros w64 m (omega arith) fits in
    (trailing_zeros w64 m, low.1)

-- only places below the width
pub Has-below : (w m i : ℕ) → m < 2 ^ w → Has m i → i < w
Has-below w m i fits h = elim (cases_lt i w) [ inl lt ↦ lt | inr ge ↦ absurd (omega (arith, bit_at_above m w i fits ge, h)) ]

pub Has-positive : (m i : ℕ) → Has m i → 0 < m
Has-positive m i h = elim (cases_eq m 0) [ inl is ↦ absurd (Has-none i (rw is at h)) | inr ne ↦ omega arith ]

-- one more bit below the width
pub bit_or-below : (m p i n : ℕ) → p ≤ 2 ^ i → i < n → m < 2 ^ n → bit_or m p < 2 ^ n
bit_or-below m p i n le lt fits = or_lt n m p fits (omega (arith, pow-lt lt))

-- the test of a bit
pub has-Has : (m i : ℕ) → IsTrue (has m i) ↔ Has m i
has-Has m i = Decides-eqb (bit_at m i) 1
