-- The numbers of parts are determined by which nodes have one and which nodes belong together.
use Rattle.std.proofs.Common.{◌≡◌, ◌∙◌, ◌<◌, ◌⊎◌, ℕ, zero, suc, List, inl, inr, sym, arith, length, get_or}
use Rattle.std.proofs.lemmas.Bool.{cases_lt}
use Rattle.std.proofs.lemmas.List.{ext_get_or}
use Rattle.std.specs.Prelude.{slice_index}
use Rattle.cover_planner.specs.Parts.{IsNumbered}

-- if all nodes below have the same numbers in both, a node's second number isn't the greater one
not_above : (N : ℕ → Type 0) (S : ℕ → ℕ → Type 0) (xs ys : List ℕ) → IsNumbered N S xs → IsNumbered N S ys → (a : ℕ) → N a
    → ((b : ℕ) → b < a → N b → slice_index xs b ≡ slice_index ys b) → slice_index xs a < slice_index ys a → ⊥
not_above N S xs ys p q a here below lt =
    let (b, lb, nb, is) = q.least a (slice_index xs a) here lt in
    let joined : slice_index xs b ≡ slice_index xs a = below b lb nb ∙ is in
    let same : slice_index ys b ≡ slice_index ys a = (q.same b a nb here).1 ((p.same b a nb here).0 joined) in
    omega (arith, is, same, lt)

-- two numbers of which neither is the greater one
neither : (x y : ℕ) → (x < y → ⊥) → (y < x → ⊥) → x ≡ y
neither x y f g =
    elim (cases_lt x y) [
      | inl lt ↦ absurd (f lt)
      | inr le ↦ elim (cases_lt y x) [
        | inl lt ↦ absurd (g lt)
        | inr ge ↦ omega (arith, le, ge)
      ]
    ]

-- node after node, the numbers are the same
same_below : (N : ℕ → Type 0) (S : ℕ → ℕ → Type 0) (xs ys : List ℕ) → IsNumbered N S xs → IsNumbered N S ys → (n a : ℕ) → a < n → N a → slice_index xs a ≡ slice_index ys a
same_below N S xs ys p q zero a lt here = absurd (omega (arith, lt))
same_below N S xs ys p q (suc n) a lt here =
    let below : (b : ℕ) → b < a → N b → slice_index xs b ≡ slice_index ys b = λ b lb nb. same_below N S xs ys p q n b (omega (arith, lt, lb)) nb in
    neither (slice_index xs a) (slice_index ys a) (not_above N S xs ys p q a here below)
    (not_above N S ys xs q p a here (λ b lb nb. sym (below b lb nb)))

pub one_numbering : (N : ℕ → Type 0) (S : ℕ → ℕ → Type 0) → ((a : ℕ) → N a ⊎ (N a → ⊥)) → (xs ys : List ℕ) → IsNumbered N S xs → IsNumbered N S ys
    → length xs ≡ 64 → length ys ≡ 64 → xs ≡ ys
one_numbering N S decide xs ys p q long also = ext_get_or 0 xs ys (long ∙ sym also) at
  where
    at : (a : ℕ) → a < length xs → get_or xs a 0 ≡ get_or ys a 0
    at a lt =
        let inside : a < 64 = omega (arith, lt, long) in
        elim (decide a) [
          | inl here ↦ same_below N S xs ys p q (suc a) a (omega arith) here
          | inr out ↦ p.outside a inside out ∙ sym (q.outside a inside out)
        ]
