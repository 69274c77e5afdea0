-- Lemmas on rows of masks, one row for each node.
use Rattle.std.proofs.Common.{◌≡◌, ℕ, ◌+◌, ◌<◌, ◌≤◌, ◌↔◌, ◌⊎◌, inl, inr, arith, bit_or, List, length, get_or, set, get_or-set_same, get_or-set_other, subst, replicate}
use Rattle.std.proofs.lemmas.Bool.{cases_eq}
use Rattle.flow_dag.specs.Masks.{Has}
use Rattle.flow_dag.specs.Rows.{RowHas, GainsRow}
use Rattle.std.proofs.lemmas.List.{get_or_past, get_or-replicate, length-replicate}
use Rattle.std.proofs.lemmas.Bool.{cases_lt}
use Rattle.std.proofs.lemmas.Nat.Bits.{bit_at-zero}
use Rattle.std.specs.Int.{bit_at}
use Rattle.flow_dag.proofs.MaskLemmas.{Has-or, Has-or_cases}
use Rattle.flow_dag.proofs.ViaLemmas.{Via, Via-next}

-- rows of zeros have no bit
pub RowHas-zeros : (n a b : ℕ) → RowHas (replicate n 0) a b → ⊥
RowHas-zeros n a b h =
    let z : ℕ = 0 in
    let zero_row : get_or (replicate n z) a z ≡ z =
    elim (cases_lt a n) [ inl lt ↦ get_or-replicate n a z z lt | inr ge ↦ get_or_past (replicate n z) a z (omega (arith, length-replicate n z)) ]
    in
    let h' : bit_at 0 b ≡ 1 = rw zero_row at h in
    omega (arith, bit_at-zero b, h')

-- the row of one node, which has `k` and gains the row `r`
gains : (p r k b : ℕ) → Has p k → Has (bit_or p r) b ↔ (Has p b ⊎ (Has p k × Has r b))
gains p r k b h = (
  λ g. elim (Has-or_cases p r b g) [ inl u ↦ inl u | inr v ↦ inr (h, v) ],
  λ g. Has-or p r b (elim g [ inl u ↦ inl u | inr v ↦ inr v.1 ]),
)

-- the row of one node, which does not have `k`
keeps : (p r k b : ℕ) → (Has p k → ⊥) → Has p b ↔ (Has p b ⊎ (Has p k × Has r b))
keeps p r k b n = (λ g. inl g, λ g. elim g [ inl u ↦ u | inr v ↦ absurd (n v.0) ])

module _ (old rows : List ℕ) (k a : ℕ) (done : (x b : ℕ) → x < a → GainsRow old k rows x b) (rest : (x : ℕ) → a ≤ x → get_or rows x 0 ≡ get_or old x 0) (within : a < length rows) where
  pub GainsRow-set : Has (get_or rows a 0) k → (x b : ℕ) → x < a + 1 → GainsRow old k (set rows a (bit_or (get_or rows a 0) (get_or old k 0))) x b
  GainsRow-set h x b lt =
      elim (cases_eq x a) [
        | inl e ↦
            let same = rest a (omega arith) in
            rw (e, get_or-set_same rows a (bit_or (get_or rows a 0) (get_or old k 0)) 0 within, same)
            (let h' = rw same at h in gains (get_or old a 0) (get_or old k 0) k b h')
        | inr ne ↦
            let lt' : x < a = omega arith in
            rw (get_or-set_other rows a x (bit_or (get_or rows a 0) (get_or old k 0)) 0 ne) (done x b lt')
      ]

  pub GainsRow-same : (Has (get_or rows a 0) k → ⊥) → (x b : ℕ) → x < a + 1 → GainsRow old k rows x b
  GainsRow-same n x b lt =
      elim (cases_eq x a) [
        | inl e ↦
            let same = rest a (omega arith) in
            rw (e, same) (let n' = rw same at n in keeps (get_or old a 0) (get_or old k 0) k b n')
        | inr ne ↦ done x b (omega arith)
      ]

-- only a row that is there has a bit
pub RowHas-within : (rows : List ℕ) (a b : ℕ) → RowHas rows a b → a < length rows
RowHas-within rows a b h =
    elim (cases_lt a (length rows)) [
      | inl lt ↦ lt
      | inr ge ↦
          let past : get_or rows a 0 ≡ 0 = get_or_past rows a 0 ge in
          let zero_bit : bit_at 0 b ≡ 0 = bit_at-zero b in
          let h' : bit_at 0 b ≡ 1 = rw past at h in
          absurd (omega (arith, zero_bit, h'))
    ]

-- one more node may stand inside the walks
pub RowHas-via_next :
    (E : ℕ → ℕ → Type 0) (n k : ℕ) (old new : List ℕ) → k < n →
    ((a b : ℕ) → a < n → RowHas old a b ↔ Via E k a b) → ((a b : ℕ) → a < n → GainsRow old k new a b) →
    (a b : ℕ) → a < n → RowHas new a b ↔ Via E (k + 1) a b
RowHas-via_next E n k old new ltk i gained a b lt = (
  λ h. (Via-next E k a b).1 (elim ((gained a b lt).0 h) [
    | inl u ↦ inl ((i a b lt).0 u)
    | inr w ↦ inr ((i a k lt).0 w.0, (i k b ltk).0 w.1)
  ]),
  λ v. (gained a b lt).1 (elim ((Via-next E k a b).0 v) [
    | inl u ↦ inl ((i a b lt).1 u)
    | inr w ↦ inr ((i a k lt).1 w.0, (i k b ltk).1 w.1)
  ]),
)

-- rows that are written one after another: the rows below `a` have what `P` says, and the others have nothing
module _ (P : ℕ → ℕ → Type 0) (rows : List ℕ) (a : ℕ) (so_far : (x b : ℕ) → RowHas rows x b ↔ ((x < a) × P x b)) where
  pub RowHas-set_next : (row : ℕ) → a < length rows → ((b : ℕ) → Has row b ↔ P a b) → (x b : ℕ) → RowHas (set rows a row) x b ↔ ((x < a + 1) × P x b)
  RowHas-set_next row within is x b =
      elim (cases_eq x a) [
        | inl e ↦ rw (e, get_or-set_same rows a row 0 within) (λ h. (omega arith, (is b).0 h), λ g. (is b).1 g.1)
        | inr ne ↦
            rw (get_or-set_other rows a x row 0 ne) (
              λ h. let g = (so_far x b).0 h in (omega arith, g.1),
              λ g. (so_far x b).1 (omega arith, g.1),
            )
      ]

  pub RowHas-skip_next : ((b : ℕ) → P a b → ⊥) → (x b : ℕ) → RowHas rows x b ↔ ((x < a + 1) × P x b)
  RowHas-skip_next none x b = (
    λ h. let g = (so_far x b).0 h in (omega arith, g.1),
    λ g. elim (cases_eq x a) [
      | inl e ↦ absurd (none b (subst (λ v. P v b) e g.1))
      | inr ne ↦ (so_far x b).1 (omega arith, g.1)
    ],
  )

  pub RowHas-all : (n : ℕ) → n ≤ a → ((x b : ℕ) → P x b → x < n) → (x b : ℕ) → RowHas rows x b ↔ P x b
  RowHas-all n le inside x b = (
    λ h. ((so_far x b).0 h).1,
    λ p. let lt : x < n = inside x b p in (so_far x b).1 (omega arith, p),
  )

pub RowHas-none_yet : (P : ℕ → ℕ → Type 0) (n : ℕ) (x b : ℕ) → RowHas (replicate n 0) x b ↔ ((x < 0) × P x b)
RowHas-none_yet P n x b = (λ h. absurd (RowHas-zeros n x b h), λ g. absurd (omega arith))
