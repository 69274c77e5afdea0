-- What two seats own shows that they are two: each owns three quarters of the view at its number.
use Rattle.atomic_table.proofs.Names.{◌≡◌, ℕ, [], ◌∷◌, refl, sym, ap, ent, sep, guard_i, sem, Logic, Fml, ‵, ◌⊛◌, given, ◌$◌, ◌∵◌, !, qed, move, fsplit, fjoin, split, learn, rewrite, use2, done, RattleType, Coded, Ura}
use base.Logic.{guard}
use base.Share.{three_quarters}
use types.Kit.{check}
use Rattle.atomic_table.specs.Table.{Me}
use Rattle.atomic_table.specs.Seated.{TableId, mine, seen}
use Rattle.atomic_table.proofs.Roster.{apart}

module _ {M : Type 1} {𝓤 : Ura M} (𝓛 : Logic 𝓤) (R : RattleType) {V : Type 0} (cv : Coded V) (y z : TableId) (j k : ℕ) (m n : Me R.Denot V) where
  pub two_apart : ent 𝓤 (sep 𝓤 (sem 𝓛 (mine R cv.code y j m)) (sem 𝓛 (mine R cv.code z k n))) (guard 𝓤 (y ≡ z → ¬ (k ≡ j)) (sep 𝓤 (sem 𝓛 (mine R cv.code y j m)) (sem 𝓛 (mine R cv.code z k n))))
  two_apart =
      let A : Fml = mine R cv.code y j m in
      let B : Fml = mine R cv.code z k n in
      mathlib.Core.Logic.dite (native.Mathlib.Decide.ℕ_discrete y.views_name z.views_name)
      (λ e. qed 𝓛 (‵ A ∷ ‵ B ∷ []) ∵ move ! (1 ∷ []) $ fsplit ! $ move ! (2 ∷ []) $ fsplit ! $
      rewrite ! 2 (λ (γ : ℕ). ‵ (seen cv.code γ k three_quarters n.0)) (sym e) refl $ move ! (0 ∷ 2 ∷ []) $
      use2 𝓛 (given (¬ (k ≡ j)) (‵ (seen cv.code y.views_name j three_quarters m.0) ⊛ ‵ (seen cv.code y.views_name k three_quarters n.0))) (apart 𝓛 cv y.views_name j k m.0 n.0) $ learn ! (λ two. split ! $
      rewrite ! 1 (λ (γ : ℕ). ‵ (seen cv.code γ k three_quarters n.0)) e refl $ check ! (λ same. two) $
      move ! (1 ∷ 3 ∷ []) $ fjoin ! $ move ! (1 ∷ 2 ∷ []) $ fjoin ! $ done !))
      (λ differ. guard_i 𝓤 (y ≡ z → ¬ (k ≡ j)) (sep 𝓤 (sem 𝓛 A) (sem 𝓛 B)) (λ same. absurd (differ (ap (λ (x : TableId). x.views_name) same))))
