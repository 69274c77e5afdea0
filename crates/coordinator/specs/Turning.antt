-- What a turn of the feeder does.
use Rattle.std.specs.Prelude.{◌≡◌, ◌≢◌, ◌⊎◌, ◌↔◌, ℕ, ◌<◌, ◌≤◌, Bool, true, List, [], ◌∷◌, ◌++◌}
use Rattle.std.specs.Prelude.{length, map, None, Some, slice_get}
use Rattle.jobs.specs.JobView.{JobView}
use Rattle.sink_journal.specs.declared.journal.Feed.{Feed}
use Rattle.sink_journal.specs.declared.journal.Feed.TheVariants as feed
use Rattle.tuple_trace.specs.Counts.{Rose}
use Rattle.tuple_trace.specs.declared.row.Row.{Row}
use Rattle.tuple_trace.specs.declared.tuple.Item.{Item}
use Rattle.flow_model.specs.Begin.{Begin}
use Rattle.flow_model.specs.Lanes.{lane_of}
use Rattle.flow_model.specs.SetupView.{SetupView}
use Rattle.flow_model.specs.declared.topology.Lane.{Lane}
use Rattle.coordinator.specs.declared.feeding.FeedTurn.{FeedTurn}
use Rattle.coordinator.specs.declared.feeding.FeedTurn.TheVariants as turn
use Rattle.coordinator.specs.Boxes.{AsIssued, SameBoxes, SamePosts, SomeBelow}
use Rattle.coordinator.specs.Due.{HasHeard, IsDue, NoneIsDue}
use Rattle.coordinator.specs.Feeding.{IsFeeder, fed_lanes}
use Rattle.coordinator.specs.Views.{FeederIs}
use Rattle.lane_core.specs.Lane.{EndpointIs, end_of}

-- the lane at this place was full
abbrev pub FoundItsLaneFull : ℕ → List EndpointIs → List EndpointIs → Type 0
FoundItsLaneFull place old new =
    (o : EndpointIs) × (q : EndpointIs) × (slice_get old place ≡ Some o)
    × (slice_get new place ≡ Some q) × Rose o.stalls q.stalls

-- a request is due, and a worker hasn't turned all earlier ones that cover it
abbrev pub RequestWaits : Bool → SetupView → List Row → FeederIs → FeederIs → Type 0
RequestWaits live setup rows old new =
    IsDue live setup rows new.loads old
    × SomeBelow setup old.begin_turned old.issued old.boxes.posters new.boxes.posters

-- the place of the lane of a row
abbrev pub IsLaneOfRow : JobView → Row → ℕ → Type 0
IsLaneOfRow job row place =
    (lane : Lane) × (lane_of job None row.source 0 row.tuple ≡ Some lane)
    × (slice_get (fed_lanes job) place ≡ Some lane)

-- no request is due, and the lane of the next row was full
abbrev pub RowWaits : Bool → SetupView → List Row → FeederIs → FeederIs → Type 0
RowWaits live setup rows old new =
    (row : Row) × (place : ℕ) × (slice_get rows old.row ≡ Some row)
    × NoneIsDue live setup rows new.loads old × HasHeard setup rows old new
    × IsLaneOfRow setup.job row place × FoundItsLaneFull place old.outs new.outs

-- no request is due, no row is left, and a lane that isn't ended was full
abbrev pub EndWaits : Bool → SetupView → List Row → FeederIs → FeederIs → Type 0
EndWaits live setup rows old new =
    NoneIsDue live setup rows new.loads old × (length rows ≤ old.row)
    × (old.ended < length old.outs) × FoundItsLaneFull old.ended old.outs new.outs

abbrev pub Waits : Bool → SetupView → List Row → FeederIs → FeederIs → Type 0
Waits live setup rows old new =
    RequestWaits live setup rows old new
    ⊎ (RowWaits live setup rows old new ⊎ EndWaits live setup rows old new)

-- the feed or a lane's list grew
abbrev pub Grew : FeederIs → FeederIs → Type 0
Grew old new =
    ((entry : Feed) × (new.feeds ≡ old.feeds ++ entry ∷ []))
    ⊎ ((place : ℕ) × (o : EndpointIs) × (q : EndpointIs) × (item : Item)
    × (slice_get old.outs place ≡ Some o) × (slice_get new.outs place ≡ Some q) × (q.items ≡ o.items ++ item ∷ []))

-- the list is as before, or has one item more
abbrev pub AtMostOneMore : {A : Type 0} → List A → List A → Type 0
AtMostOneMore {A} old new = (new ≡ old) ⊎ ((item : A) × (new ≡ old ++ item ∷ []))

-- One turn: the law holds after it from every beginning from which it held before. Endpoints and
-- boxes stay what they are. The feed gets at most one entry. A request is issued only once it is
-- due and as it has to be, and otherwise nothing is posted. A row is fed, and a lane ended, only if
-- no request is due. Each outcome has its cause.
pub record IsFeederTurn (live : Bool) (setup : SetupView) (rows : List Row) (answer : FeedTurn)
    (old new : FeederIs) : Type 0 where
  pub law :
      (begin : Begin) → IsFeeder live setup begin rows old → IsFeeder live setup begin rows new
  pub endpoints : map end_of new.outs ≡ map end_of old.outs
  pub boxes : SameBoxes old.boxes.posters new.boxes.posters
  pub begun : (new.begin_row ≡ old.begin_row) × (new.begin_turned ≡ old.begin_turned)
  pub loads : AtMostOneMore old.loads new.loads
  pub one_entry : AtMostOneMore old.feeds new.feeds
  pub issued :
      (r : ℕ) → new.feeds ≡ old.feeds ++ feed.Issued r ∷ []
      → IsDue live setup rows new.loads old
      × AsIssued setup old.begin_turned r old.boxes.posters new.boxes.posters
  pub unissued :
      ((r : ℕ) → new.feeds ≢ old.feeds ++ feed.Issued r ∷ [])
      → SamePosts old.boxes.posters new.boxes.posters
  pub fed :
      (r : ℕ) → new.feeds ≡ old.feeds ++ feed.Fed r ∷ []
      → NoneIsDue live setup rows new.loads old × HasHeard setup rows old new
  pub ended : old.ended < new.ended → NoneIsDue live setup rows new.loads old
  pub moved : answer ≡ turn.Moved → Grew old new
  pub idle : answer ≡ turn.Idle → (new.feeds ≡ old.feeds) × Waits live setup rows old new
  pub done : (answer ≡ turn.Done) ↔ (new.stopped ≡ true)
  pub no_memory : answer ≡ turn.NoMemory → new ≡ record old { loads = new.loads }
