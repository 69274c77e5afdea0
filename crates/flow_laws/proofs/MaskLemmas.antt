-- Masks are determined by what they hold.
use Rattle.std.proofs.Common.{◌≡◌, ◌∙◌, ◌<◌, ◌↔◌, ◌⊎◌, ℕ, inl, inr, sym, arith}
use Rattle.std.proofs.lemmas.Bool.{cases_eq}
use Rattle.std.proofs.lemmas.Nat.Bits.{bit_at-lt, same_from_bits}
use Rattle.std.specs.Int.{bit_at}
use Rattle.flow_dag.specs.Masks.{Has}

one_bit : (x y : ℕ) → x < 2 → y < 2 → ((x ≡ 1) ↔ (y ≡ 1)) → x ≡ y
one_bit x y low also same =
    elim (cases_eq x 1) [
      | inl e ↦ e ∙ sym (same.0 e)
      | inr n ↦ elim (cases_eq y 1) [
        | inl f ↦ absurd (n (same.1 f))
        | inr m ↦ omega arith
      ]
    ]

-- a mask either holds a place or doesn't
pub holds_or_not : (mask i : ℕ) → Has mask i ⊎ (Has mask i → ⊥)
holds_or_not mask i = cases_eq (bit_at mask i) 1

-- two masks that hold just what passes are equal
pub one_mask : (P : ℕ → Type 0) (a b : ℕ) → ((i : ℕ) → Has a i ↔ P i) → ((i : ℕ) → Has b i ↔ P i) → a ≡ b
one_mask P a b first second =
    same_from_bits a b (λ i. one_bit (bit_at a i) (bit_at b i) (bit_at-lt a i) (bit_at-lt b i) (λ h. (second i).1 ((first i).0 h), λ h. (first i).1 ((second i).0 h)))
