-- Sums over the views, when one view changes.
use Rattle.std.proofs.Common.{◌≡◌, ◌≢◌, ℕ, zero, suc, ◌+◌, ◌≤◌, List, [], ◌∷◌, ◌++◌, set, sym, refl, ap, subst, ⊎_elim, arith}
use Rattle.flow_runner.specs.Rule.{added_up}
use mathlib.Core.Option.{some, some-ne-none, some-injective}
use lib.ListN.{get_elem?}
use Rattle.crossbeam_queue.proofs.Lists.{at_set, at_snoc}

pub total_set : {V : Type 0} (f : V → ℕ) (views : List V) (port : ℕ) (v w : V) → get_elem? views port ≡ some v → added_up f (set views port w) + f v ≡ added_up f views + f w
total_set f [] port v w e = absurd (some-ne-none v (sym e))
total_set f (u ∷ us) zero v w e = let h : f u ≡ f v = ap f (some-injective u v e) in omega (arith, h)
total_set f (u ∷ us) (suc port) v w e = let h = total_set f us port v w e in omega (arith, h)

pub total_snoc : {V : Type 0} (f : V → ℕ) (views : List V) (v : V) → added_up f (views ++ v ∷ []) ≡ added_up f views + f v
total_snoc f [] v = omega arith
total_snoc f (u ∷ us) v = let h = total_snoc f us v in omega (arith, h)

pub at_most : {V : Type 0} (f : V → ℕ) (views : List V) (port : ℕ) (v : V) → get_elem? views port ≡ some v → f v ≤ added_up f views
at_most f [] port v e = absurd (some-ne-none v (sym e))
at_most f (u ∷ us) zero v e = let h : f u ≡ f v = ap f (some-injective u v e) in omega (arith, h)
at_most f (u ∷ us) (suc port) v e = let h = at_most f us port v e in omega (arith, h)

pub zeros : {V : Type 0} (f g : V → ℕ) (views : List V) → added_up f views ≡ 0 → ((port : ℕ) (u : V) → get_elem? views port ≡ some u → f u ≡ 0 → g u ≡ 0) → added_up g views ≡ 0
zeros f g [] z idle = refl
zeros f g (u ∷ us) z idle =
    let a : g u ≡ 0 = idle 0 u refl (omega (arith, z)) in
    let b = zeros f g us (omega (arith, z)) (λ port w e. idle (suc port) w e) in omega (arith, a, b)

-- where one view has all of f, and g is 0 where f is, that view has all of g
pub alone : {V : Type 0} (f g : V → ℕ) (views : List V) (port : ℕ) (v : V) → get_elem? views port ≡ some v → added_up f views ≡ f v
    → ((p : ℕ) (u : V) → get_elem? views p ≡ some u → f u ≡ 0 → g u ≡ 0) → added_up g views ≡ g v
alone f g [] port v e s idle = absurd (some-ne-none v (sym e))
alone f g (u ∷ us) zero v e s idle =
    let h : f u ≡ f v = ap f (some-injective u v e) in
    let k : g u ≡ g v = ap g (some-injective u v e) in
    let z = zeros f g us (omega (arith, h, s)) (λ port w e'. idle (suc port) w e') in omega (arith, k, z)
alone f g (u ∷ us) (suc port) v e s idle =
    let m = at_most f us port v e in
    let a : g u ≡ 0 = idle 0 u refl (omega (arith, m, s)) in
    let b = alone f g us port v e (omega (arith, m, s)) (λ p w e'. idle (suc p) w e') in omega (arith, a, b)

abbrev pub EachIs : {V : Type 0} → (V → Type 0) → List V → Type 0
EachIs {V} F views = (port : ℕ) (v : V) → get_elem? views port ≡ some v → F v

pub each_set : {V : Type 0} (F : V → Type 0) (views : List V) (port : ℕ) (w : V) → F w → EachIs F views → EachIs F (set views port w)
each_set {V} F views port w here all j u e =
    ⊎_elim (λ (x : (j ≡ port) × (w ≡ u)). let P : V → Type 0 = λ y. F y in subst P x.1 here)
    (λ (x : (j ≢ port) × (get_elem? views j ≡ some u)). all j u x.1) (at_set views port j w u e)

pub each_snoc : {V : Type 0} (F : V → Type 0) (views : List V) (w : V) → F w → EachIs F views → EachIs F (views ++ w ∷ [])
each_snoc {V} F views w here all j u e =
    ⊎_elim (λ (x : get_elem? views j ≡ some u). all j u x) (λ (x : w ≡ u). let P : V → Type 0 = λ y. F y in subst P x here) (at_snoc views w u j e)
