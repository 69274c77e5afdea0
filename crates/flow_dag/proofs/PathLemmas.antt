-- Which nodes a path reaches, for any relation of edges.
use Rattle.std.proofs.Common.{◌≡◌, ℕ, ◌<◌, ◌⊎◌, inl, inr, refl, sym, subst, List, [], ◌∷◌}
use Rattle.flow_dag.specs.Paths.{IsWalk, last_of, Leads, Reaches, IsOrReaches}

module _ (E : ℕ → ℕ → Type 0) where
  -- ---- walks of any length

  pub IsOrReaches-here : (a b : ℕ) → a ≡ b → IsOrReaches E a b
  IsOrReaches-here a b same = ([], tt, same)

  pub IsOrReaches-edge : (a b : ℕ) → E a b → IsOrReaches E a b
  IsOrReaches-edge a b e = (b ∷ [], (e, tt), refl)

  walk_join : (rest : List ℕ) (a b c : ℕ) → IsWalk E a rest → last_of a rest ≡ b → IsOrReaches E b c → IsOrReaches E a c
  walk_join [] a b c f l w = subst (λ v. IsOrReaches E v c) (sym l) w
  walk_join (y ∷ rest) a b c f l w = let (r, g, m) = walk_join rest y b c f.1 l w in (y ∷ r, (f.0, g), m)

  pub IsOrReaches-trans : (a b c : ℕ) → IsOrReaches E a b → IsOrReaches E b c → IsOrReaches E a c
  IsOrReaches-trans a b c (rest, f, l) w = walk_join rest a b c f l w

  walk_reversed : ((x y : ℕ) → E x y → E y x) → (rest : List ℕ) (a b : ℕ) → IsWalk E a rest → last_of a rest ≡ b → IsOrReaches E b a
  walk_reversed s [] a b f l = IsOrReaches-here b a (sym l)
  walk_reversed s (y ∷ rest) a b f l = IsOrReaches-trans b y a (walk_reversed s rest y b f.1 l) (IsOrReaches-edge y a (s a y f.0))

  -- where each edge has one back, each walk has one back
  pub IsOrReaches-reversed : ((x y : ℕ) → E x y → E y x) → (a b : ℕ) → IsOrReaches E a b → IsOrReaches E b a
  IsOrReaches-reversed s a b (rest, f, l) = walk_reversed s rest a b f l

  -- ---- a path is an edge and a walk on from there

  pub Reaches-from_steps : (a y b : ℕ) → E a y → IsOrReaches E y b → Reaches E a b
  Reaches-from_steps a y b e (rest, f, l) = (a ∷ y ∷ rest, ((e, f), refl, l))

  leads_steps : (a b : ℕ) (path : List ℕ) → Leads E a b path → (y : ℕ) × E a y × IsOrReaches E y b
  leads_steps a b [] h = absurd h
  leads_steps a b (x ∷ []) h = absurd h
  leads_steps a b (x ∷ y ∷ rest) h = (y, subst (λ v. E v y) h.1 h.0.0, (rest, h.0.1, h.2))

  pub Reaches-steps : (a b : ℕ) → Reaches E a b → (y : ℕ) × E a y × IsOrReaches E y b
  Reaches-steps a b (path, h) = leads_steps a b path h

  pub Reaches-edge : (a b : ℕ) → E a b → Reaches E a b
  Reaches-edge a b e = Reaches-from_steps a b b e (IsOrReaches-here b b refl)

  pub IsOrReaches-weaken : (a b : ℕ) → Reaches E a b → IsOrReaches E a b
  IsOrReaches-weaken a b r = let (y, e, w) = Reaches-steps a b r in IsOrReaches-trans a y b (IsOrReaches-edge a y e) w

  pub IsOrReaches-cases : (a b : ℕ) → IsOrReaches E a b → (a ≡ b) ⊎ Reaches E a b
  IsOrReaches-cases a b ([], f, l) = inl l
  IsOrReaches-cases a b (y ∷ rest, f, l) = inr (Reaches-from_steps a y b f.0 (rest, f.1, l))

  pub Reaches-trans : (a b c : ℕ) → Reaches E a b → Reaches E b c → Reaches E a c
  Reaches-trans a b c r s =
      let (y, e, w) = Reaches-steps a b r in Reaches-from_steps a y c e (IsOrReaches-trans y b c w (IsOrReaches-weaken b c s))

  -- ---- the last edge of a path, and where its ends lie

  walk_last : (rest : List ℕ) (a y b : ℕ) → E a y → IsWalk E y rest → last_of y rest ≡ b → (c : ℕ) × IsOrReaches E a c × E c b
  walk_last [] a y b e f l = (a, IsOrReaches-here a a refl, subst (λ v. E a v) l e)
  walk_last (z ∷ rest) a y b e f l =
      let (c, w, last) = walk_last rest y z b f.0 f.1 l in (c, IsOrReaches-trans a y c (IsOrReaches-edge a y e) w, last)

  pub Reaches-last_step : (a b : ℕ) → Reaches E a b → (c : ℕ) × IsOrReaches E a c × E c b
  Reaches-last_step a b r = let (y, e, (rest, f, l)) = Reaches-steps a b r in walk_last rest a y b e f l

  pub Reaches-first_below : (n : ℕ) → ((x y : ℕ) → E x y → x < n) → (a b : ℕ) → Reaches E a b → a < n
  Reaches-first_below n inside a b r = let (y, e, w) = Reaches-steps a b r in inside a y e

  pub Reaches-last_below : (n : ℕ) → ((x y : ℕ) → E x y → y < n) → (a b : ℕ) → Reaches E a b → b < n
  Reaches-last_below n inside a b r = let (c, w, e) = Reaches-last_step a b r in inside c b e

-- ---- the same nodes with other edges

module _ (E F : ℕ → ℕ → Type 0) (more : (a b : ℕ) → E a b → F a b) where
  pub IsWalk-map : (rest : List ℕ) (a : ℕ) → IsWalk E a rest → IsWalk F a rest
  IsWalk-map [] a f = tt
  IsWalk-map (b ∷ rest) a f = (more a b f.0, IsWalk-map rest b f.1)

  pub IsOrReaches-map : (a b : ℕ) → IsOrReaches E a b → IsOrReaches F a b
  IsOrReaches-map a b (rest, f, l) = (rest, IsWalk-map rest a f, l)

  pub Reaches-map : (a b : ℕ) → Reaches E a b → Reaches F a b
  Reaches-map a b r = let (y, e, w) = Reaches-steps E a b r in Reaches-from_steps F a y b (more a y e) (IsOrReaches-map y b w)
