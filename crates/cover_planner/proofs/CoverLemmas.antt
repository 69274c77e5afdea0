-- An edge is covered where its sender is a member or below one, and its receiver is a member or above one.
use Rattle.std.proofs.Common.{◌≡◌, ◌∙◌, ℕ, inl, inr, sym, refl, subst, List, [], ◌∷◌, ◌++◌}
use Rattle.flow_dag.specs.Paths.{IsWalk, last_of, Leads, IsOrReaches}
use Rattle.flow_dag.proofs.PathLemmas.{Reaches-trans, IsOrReaches-here, IsOrReaches-edge, IsOrReaches-trans, IsOrReaches-weaken, IsOrReaches-cases}
use Rattle.cover_planner.specs.Cover.{StandNext, LiesOn, IsCoveredEdge, IsDownstream, IsUpstream}

module _ (E : ℕ → ℕ → Type 0) where
  -- what stands before and after an edge of a list of nodes
  around : (a b x : ℕ) (rest : List ℕ) → IsWalk E x rest → StandNext a b x rest → IsOrReaches E x a × E a b × IsOrReaches E b (last_of x rest)
  around a b x [] f s = absurd s
  around a b x (y ∷ rest) f (inl (xa, yb)) = (
    IsOrReaches-here E x a xa,
    subst (λ v. E v b) xa (subst (λ v. E x v) yb f.0),
    (rest, subst (λ v. IsWalk E v rest) yb f.1, subst (λ v. last_of v rest ≡ last_of y rest) yb refl),
  )
  around a b x (y ∷ rest) f (inr s) =
      let (before, e, after) = around a b y rest f.1 s in
      (IsOrReaches-trans E x y a (IsOrReaches-edge E x y f.0) before, e, after)

  pub LiesOn-around : (a b from to : ℕ) (path : List ℕ) → Leads E from to path → LiesOn a b path → IsOrReaches E from a × E a b × IsOrReaches E b to
  LiesOn-around a b from to [] l s = absurd l
  LiesOn-around a b from to (x ∷ []) l s = absurd l
  LiesOn-around a b from to (x ∷ y ∷ rest) l s =
      let (before, e, after) = around a b x (y ∷ rest) l.0 s in
      (subst (λ v. IsOrReaches E v a) l.1 before, e, subst (λ v. IsOrReaches E b v) l.2 after)

  -- a walk, an edge from its last node, and another walk
  walk_on : (x : ℕ) (r : List ℕ) (a b : ℕ) (s : List ℕ) → IsWalk E x r → last_of x r ≡ a → E a b → IsWalk E b s → IsWalk E x (r ++ b ∷ s)
  walk_on x [] a b s f l e g = (subst (λ v. E v b) (sym l) e, g)
  walk_on x (y ∷ r) a b s f l e g = (f.0, walk_on y r a b s f.1 l e g)

  last_on : (x : ℕ) (r : List ℕ) (b : ℕ) (s : List ℕ) → last_of x (r ++ b ∷ s) ≡ last_of b s
  last_on x [] b s = refl
  last_on x (y ∷ r) b s = last_on y r b s

  stand_on : (x : ℕ) (r : List ℕ) (a b : ℕ) (s : List ℕ) → last_of x r ≡ a → StandNext a b x (r ++ b ∷ s)
  stand_on x [] a b s l = inl (l, refl)
  stand_on x (y ∷ r) a b s l = inr (stand_on y r a b s l)

  -- where an edge stands in the list there are two nodes
  leads_on : (a b x to : ℕ) (rest : List ℕ) → IsWalk E x rest → last_of x rest ≡ to → StandNext a b x rest → Leads E x to (x ∷ rest)
  leads_on a b x to [] f l s = absurd s
  leads_on a b x to (y ∷ rest) f l s = (f, refl, l)

  module _ (M : ℕ → Type 0) where
    pub IsDownstream-walk : (a : ℕ) → IsDownstream E M a → (m : ℕ) × M m × IsOrReaches E m a
    IsDownstream-walk a (inl m) = (a, m, IsOrReaches-here E a a refl)
    IsDownstream-walk a (inr (m, is, r)) = (m, is, IsOrReaches-weaken E m a r)

    pub IsUpstream-walk : (b : ℕ) → IsUpstream E M b → (m : ℕ) × M m × IsOrReaches E b m
    IsUpstream-walk b (inl m) = (b, m, IsOrReaches-here E b b refl)
    IsUpstream-walk b (inr (m, is, r)) = (m, is, IsOrReaches-weaken E b m r)

    pub IsDownstream-on : (a b : ℕ) → IsDownstream E M a → IsOrReaches E a b → IsDownstream E M b
    IsDownstream-on a b d w =
        elim (IsOrReaches-cases E a b w) [
          | inl is ↦ subst (IsDownstream E M) is d
          | inr r ↦ elim d [ inl m ↦ inr (a, m, r) | inr (m, is, q) ↦ inr (m, is, Reaches-trans E m a b q r) ]
        ]

    pub IsUpstream-back : (a b : ℕ) → IsUpstream E M b → IsOrReaches E a b → IsUpstream E M a
    IsUpstream-back a b u w =
        elim (IsOrReaches-cases E a b w) [
          | inl is ↦ subst (IsUpstream E M) (sym is) u
          | inr r ↦ elim u [ inl m ↦ inr (b, m, r) | inr (m, is, q) ↦ inr (m, is, Reaches-trans E a b m r q) ]
        ]

    pub IsCoveredEdge-made : (a b : ℕ) → E a b → IsDownstream E M a → IsUpstream E M b → IsCoveredEdge E M a b
    IsCoveredEdge-made a b e d u =
        let (m, is_m, (r, fr, lr)) = IsDownstream-walk a d in
        let (k, is_k, (s, fs, ls)) = IsUpstream-walk b u in
        let stands = stand_on m r a b s lr in (
          m,
          k,
          m ∷ (r ++ b ∷ s),
          is_m,
          is_k,
          leads_on a b m k (r ++ b ∷ s) (walk_on m r a b s fr lr e fs) (last_on m r b s ∙ ls) stands,
          stands,
        )

    pub IsCoveredEdge-parts : (a b : ℕ) → IsCoveredEdge E M a b → E a b × IsDownstream E M a × IsUpstream E M b
    IsCoveredEdge-parts a b (from, to, path, is_from, is_to, l, s) =
        let (before, e, after) = LiesOn-around a b from to path l s in
        (e, IsDownstream-on from a (inl is_from) before, IsUpstream-back b to (inl is_to) after)
