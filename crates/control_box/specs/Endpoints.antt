-- What contracts see of the two ends of a box.
use Rattle.std.specs.Prelude.{◌≡◌, ℕ, ◌+◌, ◌≤◌, List, Any, map}
use Rattle.atomic_table.specs.Seated.{TableId}

-- a poster: which box it is of, its last post, and the values of turned that it loaded
pub record PosterIs : Type 0 where
  pub within : TableId
  pub posted : ℕ
  pub loads : List ℕ

-- an owner: which box it is of, its last acknowledgement, and the values of posted that it loaded
pub record OwnerIs : Type 0 where
  pub within : TableId
  pub turned : ℕ
  pub polls : List ℕ

-- one of these loads of turned shows that every due before k is turned: `ready` of k has answered
-- true, or would have
abbrev pub HasShownReady : ℕ → List ℕ → Type 0
HasShownReady k loads = Any (λ turned. k ≤ turned + 1) loads

-- place by place a poster and an owner are of one box, and there are as many of the one as of the
-- other
abbrev pub ShareBoxes : List PosterIs → List OwnerIs → Type 0
ShareBoxes posters owners =
    map (λ (poster : PosterIs). poster.within) posters
    ≡ map (λ (owner : OwnerIs). owner.within) owners
