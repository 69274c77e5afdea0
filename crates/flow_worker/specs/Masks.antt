-- Masks over the places of a worker's lanes.
use Rattle.std.specs.Prelude.{◌≡◌, ℕ, zero, suc, ◌<◌, ◌≤◌, ◌==◌, List, [], ◌∷◌, Bool, true, false}
use Rattle.std.specs.Prelude.{length, get_or, set, Option, Some, None, if◌then◌else◌}
use Rattle.flow_dag.specs.Masks.{has}
use Rattle.marker_align.specs.Hands.{is_tuple}
use Rattle.marker_align.specs.declared.held.Hand.{Hand}
use Rattle.marker_align.specs.declared.held.Hand.TheVariants.{Empty, Holds}
use Rattle.tuple_trace.specs.declared.tuple.Item.TheVariants.{Carry}
use Rattle.tuple_trace.specs.declared.tuple.Tuple.{Tuple}
use Rattle.flow_worker.specs.Pairs.{EachOne}
use Rattle.flow_worker.specs.Endpoints.{Filled, Flushed, LaneInIs, LaneOutIs, is_waiting}
use Rattle.marker_align.specs.declared.limits.TheConstants.{LANE_SET_BITS, MAX_LANES_IN}

-- the item at a place passes a test; none is outside the places
abbrev pub passes : {A : Type 0} → (A → Bool) → List A → ℕ → Bool
passes p [] k = false
passes p (x ∷ more) zero = p x
passes p (x ∷ more) (suc k) = passes p more k

-- nothing is in hand
abbrev pub is_empty_hand : Hand → Bool
is_empty_hand Empty = true
is_empty_hand (Holds item) = false

abbrev pub has_empty : LaneInIs → Bool
has_empty a = is_empty_hand a.hand

abbrev pub has_tuple : LaneInIs → Bool
has_tuple a = is_tuple a.hand

-- the request under which the row of the tuple in hand was fed
abbrev pub issued_of : Hand → Option ℕ
issued_of (Holds (Carry tuple)) = Some tuple.issued
issued_of _ = None

-- the hand at a place took what came
pub record FilledAt (place : ℕ) (ins more : List LaneInIs) : Type 0 where
  pub at : LaneInIs
  pub filled : Filled (get_or ins place at) at
  pub set_is : more ≡ set ins place at

-- of the lane at a place, what waits was put until it was full or nothing waited
pub record FlushedAt (place : ℕ) (outs more : List LaneOutIs) : Type 0 where
  pub at : LaneOutIs
  pub flushed : Flushed (get_or outs place at) at
  pub set_is : more ≡ set outs place at

-- the mask has the places that pass the test, and no other
abbrev pub IsMaskOf : {A : Type 0} → (A → Bool) → ℕ → List A → Type 0
IsMaskOf p mask xs = (k : ℕ) → has mask k ≡ passes p xs k

-- a tuple in hand was fed under this request or an earlier one
abbrev pub IsFedBy : ℕ → LaneInIs → Type 0
IsFedBy newest a = (tuple : Tuple) → a.hand ≡ Holds (Carry tuple) → tuple.issued ≤ newest

-- what a worker keeps beside its hands: the places of the empty ones, those of the ones with a
-- tuple, and a request under which or before which each of these tuples was fed
pub record AreMasks (empty tuples newest : ℕ) (ins : List LaneInIs) : Type 0 where
  pub empty_is : IsMaskOf has_empty empty ins
  pub tuples_is : IsMaskOf has_tuple tuples ins
  pub newest_is : EachOne (IsFedBy newest) ins
  pub few : length ins ≤ MAX_LANES_IN

-- of the first 128 places, the mask has all on which an item waits
abbrev pub IsMarkOf : ℕ → List LaneOutIs → Type 0
IsMarkOf mask outs =
    (k : ℕ) → k < LANE_SET_BITS → passes is_waiting outs k ≡ true → has mask k ≡ true

-- what a worker keeps beside its lanes out: on which an item waits, and for how many items each
-- lane has memory
pub record AreMarked (waiting room : ℕ) (outs : List LaneOutIs) : Type 0 where
  pub waiting_is : IsMarkOf waiting outs
  pub room_is : EachOne (λ (out : LaneOutIs). room ≤ out.memory) outs

-- the place is in the mask or out of it now; all others are as before
abbrev pub IsMaskWith : ℕ → Bool → ℕ → ℕ → Type 0
IsMaskWith place is_in before after =
    (k : ℕ) → has after k ≡ (if k == place then is_in else has before k)

-- a place was taken out of the mask, or it had none
abbrev pub IsTakenFrom : ℕ → Option ℕ → ℕ → Type 0
IsTakenFrom before None after = (k : ℕ) → has before k ≡ false
IsTakenFrom before (Some place) after =
    (place < LANE_SET_BITS) × (has before place ≡ true) × (after < before)
    × IsMaskWith place false before after

-- the first place of the mask from a place on
abbrev pub IsFirstFrom : ℕ → ℕ → Option ℕ → Type 0
IsFirstFrom mask from None = (k : ℕ) → from ≤ k → has mask k ≡ false
IsFirstFrom mask from (Some place) =
    (from ≤ place) × (has mask place ≡ true)
    × ((k : ℕ) → from ≤ k → k < place → has mask k ≡ false)
