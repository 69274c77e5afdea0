-- The steps of a feeder that isn't live, each with the whole next state.
use Rattle.std.specs.Prelude.{◌≡◌, ◌⊎◌, ℕ, ◌+◌, ◌<◌, ◌≤◌, true, false, List, [], ◌∷◌, ◌++◌, length}
use Rattle.std.specs.Prelude.{min, None, Some, slice_get, slice_set}
use Rattle.jobs.specs.JobView.{JobView}
use Rattle.sink_journal.specs.declared.journal.Feed.TheVariants as feed
use Rattle.tuple_trace.specs.Counts.{Rose}
use Rattle.tuple_trace.specs.declared.row.Row.{Row}
use Rattle.tuple_trace.specs.declared.tuple.Item.{Item}
use Rattle.tuple_trace.specs.declared.tuple.Item.TheVariants as item
use Rattle.flow_model.specs.Feeding.{fed_tuple}
use Rattle.flow_model.specs.SetupView.{SetupView}
use Rattle.coordinator.specs.declared.feeding.FeedTurn.{FeedTurn}
use Rattle.coordinator.specs.declared.feeding.FeedTurn.TheVariants as turn
use Rattle.coordinator.specs.Boxes.{AreBoxes, AsIssued, SameBoxes, SamePosts, SomeBelow}
use Rattle.coordinator.specs.Turning.{IsLaneOfRow}
use Rattle.coordinator.specs.Views.{FeederIs}
use Rattle.lane_core.specs.Lane.{EndpointIs, after_item}

-- the row of the next request is fed
abbrev pub IsReached : List ℕ → ℕ → ℕ → ℕ → Type 0
IsReached afters rows row issued =
    (after : ℕ) × (slice_get afters issued ≡ Some after) × (min after rows ≤ row)

-- no request is left, or the row of the next one isn't fed
abbrev pub IsAhead : List ℕ → ℕ → ℕ → ℕ → Type 0
IsAhead afters rows row issued =
    (after : ℕ) → slice_get afters issued ≡ Some after → row < min after rows

-- the step for a request that is due
abbrev pub Issues : SetupView → FeederIs → FeederIs → FeedTurn → Type 0
Issues setup old new turn.Moved =
    AsIssued setup old.begin_turned (old.issued + 1) old.boxes.posters new.boxes.posters
    × SameBoxes old.boxes.posters new.boxes.posters
    × AreBoxes setup old.begin_turned (old.issued + 1) new.boxes
    × (new ≡ record old {
      feeds = old.feeds ++ feed.Issued (old.issued + 1) ∷ [];
      issued = old.issued + 1;
      boxes = new.boxes;
    })
Issues setup old new turn.Idle =
    SomeBelow setup old.begin_turned old.issued old.boxes.posters new.boxes.posters
    × SamePosts old.boxes.posters new.boxes.posters
    × SameBoxes old.boxes.posters new.boxes.posters
    × AreBoxes setup old.begin_turned old.issued new.boxes
    × (new ≡ record old { boxes = new.boxes })
Issues setup old new turn.Done = ⊥
Issues setup old new turn.NoMemory = new ≡ old

abbrev pub fed_item : ℕ → Row → Item
fed_item issued row = item.Carry (fed_tuple issued row)

-- the step for the next row
abbrev pub Feeds : JobView → List Row → FeederIs → FeederIs → FeedTurn → Type 0
Feeds job rows old new turn.Moved =
    (row : Row) × (k : ℕ) × (o : EndpointIs) × (slice_get rows old.row ≡ Some row)
    × IsLaneOfRow job row k × (slice_get old.outs k ≡ Some o)
    × (new ≡ record old {
      feeds = old.feeds ++ feed.Fed (old.row + 1) ∷ [];
      row = old.row + 1;
      outs = slice_set old.outs k (after_item (fed_item old.issued row) o);
      held = None;
    })
Feeds job rows old new turn.Idle =
    (row : Row) × (k : ℕ) × (o : EndpointIs) × (n : ℕ) × (slice_get rows old.row ≡ Some row)
    × IsLaneOfRow job row k × (slice_get old.outs k ≡ Some o) × Rose o.stalls n
    × (new ≡ record old {
      outs = slice_set old.outs k (record o { stalls = n });
      held = Some (fed_tuple old.issued row);
    })
Feeds job rows old new turn.Done = ⊥
Feeds job rows old new turn.NoMemory = new ≡ old

-- the step once all rows are fed and all requests issued
abbrev pub Stops : FeederIs → FeederIs → FeedTurn → Type 0
Stops old new turn.Moved =
    (o : EndpointIs) × (slice_get old.outs old.ended ≡ Some o)
    × (new ≡ record old {
      outs = slice_set old.outs old.ended (after_item item.Last o);
      ended = old.ended + 1;
    })
Stops old new turn.Idle =
    (o : EndpointIs) × (n : ℕ) × (slice_get old.outs old.ended ≡ Some o) × Rose o.stalls n
    × (new ≡ record old { outs = slice_set old.outs old.ended (record o { stalls = n }) })
Stops old new turn.Done =
    (old.ended ≡ length old.outs)
    × (new ≡ record old { feeds = old.feeds ++ feed.Stopped ∷ []; stopped = true })
Stops old new turn.NoMemory = new ≡ old

abbrev pub Steps : SetupView → List ℕ → List Row → FeederIs → FeederIs → FeedTurn → Type 0
Steps setup afters rows old new answer =
    ((old.stopped ≡ true) × (new ≡ old) × (answer ≡ turn.Done))
    ⊎ (((old.stopped ≡ false) × IsReached afters (length rows) old.row old.issued
    × Issues setup old new answer)
    ⊎ (((old.stopped ≡ false) × IsAhead afters (length rows) old.row old.issued
    × (old.row < length rows) × Feeds setup.job rows old new answer)
    ⊎ ((old.stopped ≡ false) × IsAhead afters (length rows) old.row old.issued
    × (length rows ≤ old.row) × Stops old new answer)))
