-- The lanes out of the workers hold as many items as was asked, as lane after lane is made.
use Rattle.std.proofs.Common.{◌≡◌, ◌≢◌, ◌⊎◌, ◌∙◌, ℕ, List, [], ◌∷◌, ◌++◌, inl, inr, sym, ap, subst, Option, Some, None, slice_get, replicate}
use Rattle.flow_worker.specs.Pairs.{EachOne}
use Rattle.lane_core.specs.Lane.{EndpointIs}
use Rattle.flow_crew.specs.Sides.{HoldAtMost, SideIs, empty_side}
use Rattle.flow_crew.specs.Sorted.{changed_at, more_in, more_out, with_out}
use Rattle.flow_crew.proofs.Making.{get-replicate}
use Rattle.flow_crew.proofs.Sorting.{get-changed}

module _ (cap : ℕ) where
  abbrev Holds : EndpointIs → Type 0
  Holds end = end.lane.capacity ≡ cap

  abbrev AllHold : SideIs → Type 0
  AllHold side = EachOne Holds side.outs

  each_more : (ends : List EndpointIs) (end : EndpointIs) → EachOne Holds ends → Holds end → EachOne Holds (ends ++ end ∷ [])
  each_more [] end all one = (one, tt)
  each_more (x ∷ ends) end all one = (all.0, each_more ends end all.1 one)

  pub hold_none : (n : ℕ) (sides : List SideIs) → sides ≡ replicate n empty_side → HoldAtMost cap sides
  hold_none n sides are w side there = subst AllHold (sym (get-replicate n w empty_side side (ap (λ l. slice_get l w) (sym are) ∙ there))) tt

  pub hold_in : (end : EndpointIs) (k : ℕ) (sides : List SideIs) → HoldAtMost cap sides → HoldAtMost cap (changed_at (more_in (end ∷ [])) k sides)
  hold_in end k sides hold w side there = go (get-changed (more_in (end ∷ [])) sides k w side there)
    where
      go : (was : SideIs) × (slice_get sides w ≡ Some was) × (((k ≡ w) × (side ≡ more_in (end ∷ []) was)) ⊎ ((k ≢ w) × (side ≡ was))) → AllHold side
      go (was, g, inl (a, b)) = subst AllHold (sym b) (hold w was g)
      go (was, g, inr (a, b)) = subst AllHold (sym b) (hold w was g)

  hold_out : (end : EndpointIs) (k : ℕ) (sides : List SideIs) → Holds end → HoldAtMost cap sides → HoldAtMost cap (changed_at (more_out (end ∷ [])) k sides)
  hold_out end k sides one hold w side there = go (get-changed (more_out (end ∷ [])) sides k w side there)
    where
      go : (was : SideIs) × (slice_get sides w ≡ Some was) × (((k ≡ w) × (side ≡ more_out (end ∷ []) was)) ⊎ ((k ≢ w) × (side ≡ was))) → AllHold side
      go (was, g, inl (a, b)) = subst AllHold (sym b) (each_more was.outs end (hold w was g) one)
      go (was, g, inr (a, b)) = subst AllHold (sym b) (hold w was g)

  pub hold_sent : (end : EndpointIs) (sender : Option ℕ) (sides : List SideIs) → Holds end → HoldAtMost cap sides → HoldAtMost cap (with_out sender (end ∷ []) sides)
  hold_sent end None sides one hold = hold
  hold_sent end (Some k) sides one hold = hold_out end k sides one hold
