-- What the law of the feeder says in the words of the feed.
use Rattle.std.specs.Prelude.{◌≡◌, ◌⊎◌, ℕ, List, [], ◌∷◌, ◌++◌, length, Some, slice_get}
use Rattle.sink_journal.specs.declared.journal.Feed.{Feed}
use Rattle.tuple_trace.specs.declared.row.Row.{Row}
use Rattle.tuple_trace.specs.declared.tuple.Item.TheVariants.{Last}
use Rattle.flow_model.specs.Begin.{Begin}
use Rattle.flow_model.specs.Feeding.{fed, feed_from}
use Rattle.flow_model.specs.Lanes.{lanes}
use Rattle.flow_model.specs.SetupView.{SetupView}
use Rattle.flow_model.specs.declared.topology.Lane.{Lane}
use Rattle.coordinator.specs.Views.{FeederIs}
use Rattle.lane_core.specs.Lane.{EndpointIs}

-- the feed so far is the front of the whole feed
abbrev pub IsFront : Begin → List ℕ → List Row → FeederIs → Type 0
IsFront begin afters rows f = (more : List Feed)
    × (feed_from begin.row begin.turned afters (length rows) ≡ f.feeds ++ more)

-- what a lane's end has sent is what the feed so far puts there, with at most one end behind it
abbrev pub SendsTheFeed : SetupView → Begin → List Row → FeederIs → Type 0
SendsTheFeed setup begin rows f =
    (k : ℕ) (out : EndpointIs) → slice_get f.outs k ≡ Some out → (lane : Lane)
    × (slice_get (lanes setup.job) out.number ≡ Some lane)
    × ((out.items ≡ fed setup.job rows begin.turned lane f.feeds)
    ⊎ (out.items ≡ fed setup.job rows begin.turned lane f.feeds ++ Last ∷ []))

-- each lane's end has sent what the feed puts there, and the end
abbrev pub HasSentAll : SetupView → Begin → List Row → FeederIs → Type 0
HasSentAll setup begin rows f =
    (k : ℕ) (out : EndpointIs) → slice_get f.outs k ≡ Some out → (lane : Lane)
    × (slice_get (lanes setup.job) out.number ≡ Some lane)
    × (out.items ≡ fed setup.job rows begin.turned lane f.feeds ++ Last ∷ [])
