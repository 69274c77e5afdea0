-- Numbers for classes of nodes, given in the order of the nodes.
use Rattle.std.proofs.Common.{◌≡◌, ◌∙◌, ℕ, ◌+◌, ◌<◌, ◌≤◌, ◌↔◌, inl, inr, sym, refl, arith, subst, List, get_or}
use Rattle.std.proofs.lemmas.Bool.{cases_eq}
use Rattle.cover_planner.specs.Parts.{IsNumbered}

-- the nodes below `a` have numbers below `next`, and no other node has one
pub record Numbers (N : ℕ → Type 0) (S : ℕ → ℕ → Type 0) (f : ℕ → ℕ) (a next : ℕ) : Type 0 where
  pub few : next ≤ a
  pub outside : (x : ℕ) → x < 64 → ((x < a) × N x → ⊥) → f x ≡ 255
  pub small : (x : ℕ) → x < a → N x → f x < next
  pub same : (x y : ℕ) → x < a → y < a → N x → N y → ((f x ≡ f y) ↔ S x y)
  pub least : (x p : ℕ) → x < a → N x → p < f x → (b : ℕ) × (b < x) × N b × (f b ≡ p)
  pub used : (p : ℕ) → p < next → (b : ℕ) × (b < a) × N b × (f b ≡ p)

module _ (N : ℕ → Type 0) (S : ℕ → ℕ → Type 0)
    (S_refl : (x : ℕ) → S x x)
    (S_sym : (x y : ℕ) → S x y → S y x)
    (S_trans : (x y z : ℕ) → S x y → S y z → S x z)
    (f : ℕ → ℕ) (a next : ℕ) (so_far : Numbers N S f a next)
  where
    pub Numbers-skip : (N a → ⊥) → Numbers N S f (a + 1) next
    Numbers-skip none = record {
      few = omega (arith, so_far.few);
      outside = λ x lt out. so_far.outside x lt (λ (l, n). out (omega arith, n));
      small = λ x lt n. so_far.small x (below x lt n) n;
      same = λ x y lx ly n m. so_far.same x y (below x lx n) (below y ly m) n m;
      least = λ x p lt n lp. so_far.least x p (below x lt n) n lp;
      used = λ p lt. let (b, lb, n, is) = so_far.used p lt in (b, omega arith, n, is);
    }
      where
        below : (x : ℕ) → x < a + 1 → N x → x < a
        below x lt n = elim (cases_eq x a) [ inl e ↦ absurd (none (subst N e n)) | inr ne ↦ omega arith ]

    module _ (here : N a) (g : ℕ → ℕ) (others : (x : ℕ) → (x ≡ a → ⊥) → g x ≡ f x) where
      -- a node below `a` keeps its number
      kept : (x : ℕ) → x < a → g x ≡ f x
      kept x lt = others x (λ e. omega arith)

      -- the new node is joined with one below it
      pub Numbers-old : (b : ℕ) → b < a → N b → S a b → g a ≡ f b → Numbers N S g (a + 1) next
      Numbers-old b lb nb s is = record {
        few = omega (arith, so_far.few);
        outside = λ x lt out. elim (cases_eq x a) [
          | inl e ↦ absurd (out (omega arith, subst N (sym e) here))
          | inr ne ↦ others x ne ∙ so_far.outside x lt (λ (l, n). out (omega arith, n))
        ];
        small = λ x lt n. elim (cases_eq x a) [
          | inl e ↦ omega (arith, subst (λ v. g v ≡ f b) (sym e) is, so_far.small b lb nb)
          | inr ne ↦ omega (arith, others x ne, so_far.small x (omega arith) n)
        ];
        same = λ x y lx ly n m. elim (cases_eq x a) [
          | inl ex ↦ elim (cases_eq y a) [
            | inl ey ↦ rw (ex, ey) (λ _. S_refl a, λ _. refl)
            | inr ny ↦
                let o = so_far.same b y lb (omega arith) nb m in
                rw (ex, is, others y ny) (λ h. S_trans a b y s (o.0 h), λ h. o.1 (S_trans b a y (S_sym a b s) h))
          ]
          | inr nx ↦ elim (cases_eq y a) [
            | inl ey ↦
                let o = so_far.same x b (omega arith) lb n nb in
                rw (ey, is, others x nx) (λ h. S_trans x b a (o.0 h) (S_sym a b s), λ h. o.1 (S_trans x a b h s))
            | inr ny ↦ rw (others x nx, others y ny) (so_far.same x y (omega arith) (omega arith) n m)
          ]
        ];
        least = λ x p lt n lp. elim (cases_eq x a) [
          | inl e ↦
              let lp' : p < f b = omega (arith, subst (λ v. g v ≡ f b) (sym e) is) in
              let (d, ld, nd, isd) = so_far.least b p lb nb lp' in
              (d, omega arith, nd, kept d (omega arith) ∙ isd)
          | inr ne ↦
              let lp' : p < f x = omega (arith, others x ne) in
              let (d, ld, nd, isd) = so_far.least x p (omega arith) n lp' in
              (d, ld, nd, kept d (omega arith) ∙ isd)
        ];
        used = λ p lt. let (d, ld, nd, isd) = so_far.used p lt in (d, omega arith, nd, kept d ld ∙ isd);
      }

      -- no node below the new one is joined with it
      pub Numbers-new : ((b : ℕ) → b < a → N b → S a b → ⊥) → g a ≡ next → Numbers N S g (a + 1) (next + 1)
      Numbers-new alone is = record {
        few = omega (arith, so_far.few);
        outside = λ x lt out. elim (cases_eq x a) [
          | inl e ↦ absurd (out (omega arith, subst N (sym e) here))
          | inr ne ↦ others x ne ∙ so_far.outside x lt (λ (l, n). out (omega arith, n))
        ];
        small = λ x lt n. elim (cases_eq x a) [
          | inl e ↦ omega (arith, subst (λ v. g v ≡ next) (sym e) is)
          | inr ne ↦ omega (arith, others x ne, so_far.small x (omega arith) n)
        ];
        same = λ x y lx ly n m. elim (cases_eq x a) [
          | inl ex ↦ elim (cases_eq y a) [
            | inl ey ↦ rw (ex, ey) (λ _. S_refl a, λ _. refl)
            | inr ny ↦
                let ly' : y < a = omega arith in
                let small = so_far.small y ly' m in
                rw (ex, is, others y ny) (λ h. absurd (omega arith), λ h. absurd (alone y ly' m h))
          ]
          | inr nx ↦ elim (cases_eq y a) [
            | inl ey ↦
                let lx' : x < a = omega arith in
                let small = so_far.small x lx' n in
                rw (ey, is, others x nx) (λ h. absurd (omega arith), λ h. absurd (alone x lx' n (S_sym x a h)))
            | inr ny ↦ rw (others x nx, others y ny) (so_far.same x y (omega arith) (omega arith) n m)
          ]
        ];
        least = λ x p lt n lp. elim (cases_eq x a) [
          | inl e ↦
              let lp' : p < next = omega (arith, subst (λ v. g v ≡ next) (sym e) is) in
              let (d, ld, nd, isd) = so_far.used p lp' in
              (d, omega arith, nd, kept d ld ∙ isd)
          | inr ne ↦
              let lp' : p < f x = omega (arith, others x ne) in
              let (d, ld, nd, isd) = so_far.least x p (omega arith) n lp' in
              (d, ld, nd, kept d (omega arith) ∙ isd)
        ];
        used = λ p lt. elim (cases_eq p next) [
          | inl e ↦ (a, omega arith, here, is ∙ sym e)
          | inr ne ↦ let (d, ld, nd, isd) = so_far.used p (omega arith) in (d, omega arith, nd, kept d ld ∙ isd)
        ];
      }

-- before the first node
pub Numbers-none : (N : ℕ → Type 0) (S : ℕ → ℕ → Type 0) (f : ℕ → ℕ) → ((x : ℕ) → x < 64 → f x ≡ 255) → Numbers N S f 0 0
Numbers-none N S f none = record {
  few = omega arith;
  outside = λ x lt out. none x lt;
  small = λ x lt n. absurd (omega arith);
  same = λ x y lx ly n m. absurd (omega arith);
  least = λ x p lt n lp. absurd (omega arith);
  used = λ p lt. absurd (omega arith);
}

-- at the end each node has its number
pub IsNumbered-made :
    (N : ℕ → Type 0) (S : ℕ → ℕ → Type 0) (part : List ℕ) (a next : ℕ) → a ≡ 64 → ((x : ℕ) → N x → x < 64) →
    Numbers N S (λ x. get_or part x 0) a next → IsNumbered N S part
IsNumbered-made N S part a next end inside numbers = record {
  outside = λ x lt out. numbers.outside x lt (λ (l, n). out n);
  small = λ x n. omega (arith, numbers.few, numbers.small x (below x n) n);
  same = λ x y n m. numbers.same x y (below x n) (below y m) n m;
  least = λ x p n lp. numbers.least x p (below x n) n lp;
}
  where
    below : (x : ℕ) → N x → x < a
    below x n = omega (arith, inside x n)
