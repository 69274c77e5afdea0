-- Walks whose inner nodes are all below a number: what the steps of Warshall's algorithm know.
use Rattle.std.proofs.Common.{◌≡◌, ℕ, ◌+◌, ◌<◌, ◌≤◌, ◌↔◌, ◌⊎◌, inl, inr, refl, arith, subst, List, [], ◌∷◌}
use Rattle.std.proofs.lemmas.Bool.{cases_eq}
use Rattle.flow_dag.specs.Paths.{IsWalk, last_of, Reaches}
use Rattle.flow_dag.proofs.PathLemmas.{Reaches-edge, Reaches-trans, Reaches-steps}

-- a walk of one or more edges from `a` to `b`, whose inner nodes are all below `k`
pub data Via (E : ℕ → ℕ → Type 0) (k : ℕ) : ℕ → ℕ → Type 0 where
  one : {a b : ℕ} → E a b → Via E k a b
  more : {a c b : ℕ} → E a c → c < k → Via E k c b → Via E k a b

pub Reaches-from_Via : (E : ℕ → ℕ → Type 0) (k : ℕ) {a b : ℕ} → Via E k a b → Reaches E a b
Reaches-from_Via E k (one {a} {b} e) = Reaches-edge E a b e
Reaches-from_Via E k (more {a} {c} {b} e lt v) = Reaches-trans E a c b (Reaches-edge E a c e) (Reaches-from_Via E k v)

via_walk : (E : ℕ → ℕ → Type 0) (n : ℕ) → ((x y : ℕ) → E x y → y < n) → (rest : List ℕ) (a y b : ℕ) → E a y → IsWalk E y rest → last_of y rest ≡ b → Via E n a b
via_walk E n inside [] a y b e f l = subst (λ v. Via E n a v) l (one e)
via_walk E n inside (z ∷ rest) a y b e f l = more e (inside a y e) (via_walk E n inside rest y z b f.0 f.1 l)

pub Via-from_Reaches : (E : ℕ → ℕ → Type 0) (n : ℕ) → ((x y : ℕ) → E x y → y < n) → (a b : ℕ) → Reaches E a b → Via E n a b
Via-from_Reaches E n inside a b r = let (y, e, (rest, f, l)) = Reaches-steps E a b r in via_walk E n inside rest a y b e f l

-- with no inner node there is just an edge
pub Via-zero : (E : ℕ → ℕ → Type 0) (k : ℕ) {a b : ℕ} → k ≡ 0 → Via E k a b → E a b
Via-zero E k z (one e) = e
Via-zero E k z (more {a} {c} {b} e lt v) = absurd (omega arith)

via_wider : (E : ℕ → ℕ → Type 0) (k m : ℕ) → k ≤ m → {a b : ℕ} → Via E k a b → Via E m a b
via_wider E k m le (one e) = one e
via_wider E k m le (more {a} {c} {b} e lt v) = more e (omega arith) (via_wider E k m le v)

via_join : (E : ℕ → ℕ → Type 0) (k m b : ℕ) {a c : ℕ} → c < m → k ≤ m → Via E k a c → Via E k c b → Via E m a b
via_join E k m b lt le (one e) w = more e lt (via_wider E k m le w)
via_join E k m b lt le (more {c = d} e lt' v) w = more e (omega arith) (via_join E k m b lt le v w)

-- a walk through nodes below k + 1 passes k or it doesn't
via_cases : (E : ℕ → ℕ → Type 0) (k m : ℕ) → m ≡ k + 1 → {a b : ℕ} → Via E m a b → Via E k a b ⊎ (Via E k a k × Via E k k b)
via_cases E k m is (one e) = inl (one e)
via_cases E k m is (more {a} {c} {b} e lt v) =
    elim (cases_eq c k) [
      | inl same ↦
          let e' : E a k = subst (λ x. E a x) same e in
          elim (via_cases E k m is v) [
            | inl w ↦ inr (one e', subst (λ x. Via E k x b) same w)
            | inr w ↦ inr (one e', w.1)
          ]
      | inr other ↦
          let lt' : c < k = omega arith in
          elim (via_cases E k m is v) [
            | inl w ↦ inl (more e lt' w)
            | inr w ↦ inr (more e lt' w.0, w.1)
          ]
    ]

pub Via-next : (E : ℕ → ℕ → Type 0) (k a b : ℕ) → Via E (k + 1) a b ↔ (Via E k a b ⊎ (Via E k a k × Via E k k b))
Via-next E k a b = (
  λ v. via_cases E k (k + 1) refl v,
  λ s. elim s [ inl v ↦ via_wider E k (k + 1) (omega arith) v | inr w ↦ via_join E k (k + 1) b (omega arith) (omega arith) w.0 w.1 ],
)
