-- The rule of a box, which holds between any two of its steps, and what each step tells.
use Rattle.std.specs.Prelude.{◌≡◌, ℕ, ◌+◌, ◌<◌, ◌≤◌, true, false, [], ◌∷◌, ◌++◌, All}
use mathlib.Core.Option.{some}
use lib.ListN.{get_elem?}
use Rattle.atomic_table.specs.Table.{State, Me}
use Rattle.control_box.specs.declared.rule.View.{View}

-- the view of the first seat, which may do everything
abbrev pub fresh : View
fresh = record { may_post = true; may_turn = true; posted = 0; loads = []; turned = 0; polls = [] }

-- the poster's part of a view, and the owner's
abbrev pub poster_side : View → View
poster_side v = record v { may_turn = false; turned = 0; polls = [] }

abbrev pub owner_side : View → View
owner_side v = record v { may_post = false; posted = 0; loads = [] }

-- what a seat that may post knows: it is the only one, posted is its last post, and turned has
-- reached what it loaded
pub record PosterKnows (poster posted turned : ℕ) (seat : ℕ) (v : View) : Type 0 where
  pub alone : seat ≡ poster
  pub posted_is : v.posted ≡ posted
  pub loads : All (λ load. load ≤ turned) v.loads

-- what a seat that may turn knows: it is the only one, turned is its last acknowledgement, and
-- posted has reached what it loaded
pub record OwnerKnows (owner posted turned : ℕ) (seat : ℕ) (v : View) : Type 0 where
  pub alone : seat ≡ owner
  pub turned_is : v.turned ≡ turned
  pub polls : All (λ poll. poll ≤ posted) v.polls

-- the rule: posted is at most one ahead of turned, and the two seats know what they know
pub record IsBox {S : Type 0} (s : State S View) : Type 0 where
  pub poster : ℕ
  pub owner : ℕ
  pub posted : ℕ
  pub turned : ℕ
  pub words_are : s.words ≡ posted ∷ turned ∷ []
  pub at_most_one_ahead : posted ≤ turned + 1
  pub posters :
      (seat : ℕ) (v : View) → get_elem? s.views seat ≡ some v → v.may_post ≡ true →
      PosterKnows poster posted turned seat v
  pub owners :
      (seat : ℕ) (v : View) → get_elem? s.views seat ≡ some v → v.may_turn ≡ true →
      OwnerKnows owner posted turned seat v

-- the poster found n in turned
pub record LoadedTurned {S : Type 0} (old : Me S View) (n : ℕ) (new : Me S View) : Type 0 where
  pub seat : new ≡ (record old.0 { loads = old.0.loads ++ n ∷ [] }, old.1)
  pub rises : All (λ load. load ≤ n) old.0.loads
  pub near : old.0.posted ≤ n + 1

-- the poster stored n in posted, which rises by it
pub record StoredPosted {S : Type 0} (old : Me S View) (n : ℕ) (new : Me S View) : Type 0 where
  pub seat : new ≡ (record old.0 { posted = n }, old.1)
  pub rises : old.0.posted < n

-- the owner found n in posted
pub record LoadedPosted {S : Type 0} (old : Me S View) (n : ℕ) (new : Me S View) : Type 0 where
  pub seat : new ≡ (record old.0 { polls = old.0.polls ++ n ∷ [] }, old.1)
  pub rises : All (λ poll. poll ≤ n) old.0.polls
  pub near : n ≤ old.0.turned + 1

-- the owner stored n in turned, which rises by it
pub record StoredTurned {S : Type 0} (old : Me S View) (n : ℕ) (new : Me S View) : Type 0 where
  pub seat : new ≡ (record old.0 { turned = n }, old.1)
  pub rises : old.0.turned < n
