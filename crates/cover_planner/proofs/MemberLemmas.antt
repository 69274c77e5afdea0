-- Two bits of a mask, and the members of asked nodes.
use Rattle.std.proofs.Common.{◌≡◌, ◌∙◌, ◌≢◌, ℕ, ◌+◌, ◌<◌, ◌≤◌, ◌^◌, ◌↔◌, ◌⊎◌, Bool, true, false, inl, inr, sym, arith, subst, bit_or, bit_and}
use Rattle.std.proofs.lemmas.Bool.{cases_eq}
use Rattle.flow_dag.specs.Masks.{Has}
use Rattle.flow_dag.specs.Paths.{Reaches}
use Rattle.flow_dag.proofs.MaskLemmas.{Has-and, Has-and_both, Has-and_with, Has-below, Has-or_with}
use Rattle.cover_planner.specs.Members.{LeadsToAsked, LeadsTwice}

-- two bits of the mask are set
abbrev pub HasTwo : ℕ → Type 0
HasTwo mask = (b : ℕ) × (c : ℕ) × (b ≢ c) × Has mask b × Has mask c

-- below `n` the mask has no two bits, and `one` says whether it has one
pub record HasOne (mask : ℕ) (one : Bool) (n : ℕ) : Type 0 where
  pub some : one ≡ true → (b : ℕ) × (b < n) × Has mask b
  pub none : one ≡ false → (b : ℕ) → b < n → Has mask b → ⊥
  pub single : (b c : ℕ) → b < n → c < n → Has mask b → Has mask c → b ≡ c

pub HasOne-start : (mask : ℕ) → HasOne mask false 0
HasOne-start mask = record {
  some = λ e. absurd (cc);
  none = λ e b lt h. absurd (omega arith);
  single = λ b c lt lu h k. absurd (omega arith);
}

module _ (mask : ℕ) (one : Bool) (n : ℕ) (so_far : HasOne mask one n) where
  pub HasOne-found : one ≡ false → Has mask n → HasOne mask true (n + 1)
  HasOne-found e here = record {
    some = λ t. (n, omega arith, here);
    none = λ t. absurd (cc);
    single = λ b c lt lu h k. last b lt h ∙ sym (last c lu k);
  }
    where
      last : (b : ℕ) → b < n + 1 → Has mask b → b ≡ n
      last b lt h = elim (cases_eq b n) [ inl q ↦ q | inr ne ↦ absurd (so_far.none e b (omega arith) h) ]

  pub HasOne-skip : (Has mask n → ⊥) → HasOne mask one (n + 1)
  HasOne-skip out = record {
    some = λ e. let (b, lt, h) = so_far.some e in (b, omega arith, h);
    none = λ e b lt h. so_far.none e b (below b lt h) h;
    single = λ b c lt lu h k. so_far.single b c (below b lt h) (below c lu k) h k;
  }
    where
      below : (b : ℕ) → b < n + 1 → Has mask b → b < n
      below b lt h = elim (cases_eq b n) [ inl q ↦ absurd (out (subst (Has mask) q h)) | inr ne ↦ omega arith ]

  pub HasOne-two : one ≡ true → Has mask n → HasTwo mask
  HasOne-two e here = let (b, lt, h) = so_far.some e in (b, n, (λ q. absurd (omega arith)), h, here)

  pub HasOne-all : (w : ℕ) → mask < 2 ^ w → w ≤ n → (b c : ℕ) → Has mask b → Has mask c → b ≢ c → ⊥
  HasOne-all w fits le b c h k ne =
      let lb = Has-below w mask b fits h in
      let lc = Has-below w mask c fits k in
      ne (so_far.single b c (omega (arith, lb)) (omega (arith, lc)) h k)

-- ---- a mask of the nodes below `a` of which `P` holds

module _ (P : ℕ → Type 0) (found a : ℕ) (so_far : (x : ℕ) → Has found x ↔ ((x < a) × P x)) where
  pub found_next : (new : ℕ) → Has new a → ((k : ℕ) → k ≢ a → Has new k ↔ Has found k) → P a → (x : ℕ) → Has new x ↔ ((x < a + 1) × P x)
  found_next new here others p x =
      elim (cases_eq x a) [
        | inl e ↦ rw e (λ h. (omega arith, p), λ g. here)
        | inr ne ↦ (
          λ h. let g = (so_far x).0 ((others x ne).0 h) in (omega arith, g.1),
          λ g. (others x ne).1 ((so_far x).1 (omega arith, g.1)),
        )
      ]

  pub found_skip : (P a → ⊥) → (x : ℕ) → Has found x ↔ ((x < a + 1) × P x)
  found_skip none x = (
    λ h. let g = (so_far x).0 h in (omega arith, g.1),
    λ g. elim (cases_eq x a) [
      | inl e ↦ absurd (none (subst P e g.1))
      | inr ne ↦ (so_far x).1 (omega arith, g.1)
    ],
  )

-- two nodes that a row and a set both have
pub two_of_both : (row set : ℕ) → HasTwo (bit_and row set) ↔ ((b : ℕ) × (c : ℕ) × (b ≢ c) × (Has row b × Has set b) × (Has row c × Has set c))
two_of_both row set = (
  λ (b, c, ne, h, k). (b, c, ne, Has-and_both row set b h, Has-and_both row set c k),
  λ (b, c, ne, h, k). (b, c, ne, Has-and row set b h.0 h.1, Has-and row set c k.0 k.1),
)

-- ---- members

pub members_are :
    (Above Twice : Type 0) (asked splits copies above forked a : ℕ) → Has above a ↔ Above → Has forked a ↔ Twice →
    Has (bit_or (bit_or asked (bit_and splits above)) (bit_and copies forked)) a ↔ (Has asked a ⊎ ((Has splits a × Above) ⊎ (Has copies a × Twice)))
members_are Above Twice asked splits copies above forked a is it =
    let inner = Has-or_with (Has splits a × Above) asked (bit_and splits above) a (Has-and_with Above splits above a is) in
    let outer = Has-or_with (Has copies a × Twice) (bit_or asked (bit_and splits above)) (bit_and copies forked) a (Has-and_with Twice copies forked a it) in (
      λ h. elim (outer.0 h) [
        | inl u ↦ elim (inner.0 u) [ inl x ↦ inl x | inr y ↦ inr (inl y) ]
        | inr v ↦ inr (inr v)
      ],
      λ s. outer.1 (elim s [
        | inl x ↦ inl (inner.1 (inl x))
        | inr t ↦ elim t [ inl y ↦ inl (inner.1 (inr y)) | inr z ↦ inr z ]
      ]),
    )

-- two children that are asked or above an asked node
pub twice_are :
    (E : ℕ → ℕ → Type 0) (row : ℕ → ℕ → Type 0) (asked above a : ℕ) → ((x y : ℕ) → row x y ↔ E x y) →
    ((x : ℕ) → Has above x ↔ ((m : ℕ) × Has asked m × Reaches E x m)) →
    ((b : ℕ) × (c : ℕ) × (b ≢ c) × (row a b × Has (bit_or asked above) b) × (row a c × Has (bit_or asked above) c)) ↔ LeadsTwice E (Has asked) a
twice_are E row asked above a edges is = (
  λ (b, c, ne, h, k). (b, c, ne, ((edges a b).0 h.0, (leading b).0 h.1), ((edges a c).0 k.0, (leading c).0 k.1)),
  λ (b, c, ne, h, k). (b, c, ne, ((edges a b).1 h.0, (leading b).1 h.1), ((edges a c).1 k.0, (leading c).1 k.1)),
)
  where
    leading : (x : ℕ) → Has (bit_or asked above) x ↔ LeadsToAsked E (Has asked) x
    leading x = Has-or_with ((m : ℕ) × Has asked m × Reaches E x m) asked above x (is x)
