-- The law of the feeder.
use Rattle.std.specs.Prelude.{◌≡◌, ℕ, suc, ◌+◌, ◌-◌, ◌<◌, ◌≤◌, ⊤, Bool, true, false, Contains, List}
use Rattle.std.specs.Prelude.{[], ◌∷◌, ◌++◌, filter, length, min, nat_lt, None, Some, Option}
use Rattle.std.specs.Prelude.{replicate, slice_get, take, if◌then◌else◌}
use Rattle.flow_dag.specs.declared.edge.Edge.{Edge}
use Rattle.flow_dag.specs.declared.graph.Graph.{Graph}
use Rattle.jobs.specs.JobView.{JobView}
use Rattle.sink_journal.specs.declared.journal.Feed.{Feed}
use Rattle.sink_journal.specs.declared.journal.Feed.TheVariants as feed
use Rattle.tuple_trace.specs.declared.row.Row.{Row}
use Rattle.tuple_trace.specs.declared.tuple.Item.{Item}
use Rattle.tuple_trace.specs.declared.tuple.Item.TheVariants as item
use Rattle.tuple_trace.specs.declared.tuple.Tuple.{Tuple}
use Rattle.flow_model.specs.Agreement.{IsGraphOf}
use Rattle.flow_model.specs.Begin.{Begin}
use Rattle.flow_model.specs.Feeding.{fed, fed_tuple, feed_from}
use Rattle.flow_model.specs.Lanes.{is_same_sender, lanes}
use Rattle.flow_model.specs.SetupView.{SetupView}
use Rattle.flow_model.specs.declared.topology.Lane.{Lane}
use Rattle.flow_model.specs.Requests.{afters}
use Rattle.coordinator.specs.Boxes.{AreBoxes, LastAtLeast}
use Rattle.coordinator.specs.Views.{FeederIs}
use Rattle.lane_core.specs.Lane.{EndpointIs}
use Rattle.lane_core.specs.declared.form.Origin.{Origin}

-- the lanes on which the feeder sends: those out of the sources, in the order of their numbers
abbrev pub fed_lanes : JobView → List Lane
fed_lanes job = filter (λ (lane : Lane). is_same_sender None lane.sender) (lanes job)

-- For each of these lanes, how many earlier ones begin at a source, if k lanes before all of these
-- do.
-- It is the place of a lane of a source among the lanes of the sources.
abbrev pub places_after : ℕ → List Lane → List ℕ
places_after k [] = []
places_after k (lane ∷ more) =
    k ∷ places_after (if is_same_sender None lane.sender then suc k else k) more

abbrev pub places_of : JobView → List ℕ
places_of job = places_after 0 (lanes job)

-- each of these rows is this one or a later one, and no row is before its predecessor
abbrev pub AreRising : ℕ → List ℕ → Type 0
AreRising row [] = ⊤
AreRising row (after ∷ later) = (row ≤ after) × AreRising after later

-- how many requests a feed issues
abbrev pub issued_in : List Feed → ℕ
issued_in [] = 0
issued_in (feed.Fed row ∷ more) = issued_in more
issued_in (feed.Issued request ∷ more) = suc (issued_in more)
issued_in (feed.Stopped ∷ more) = issued_in more

-- the row after which each request of a feed is issued; the feed begins after this row
abbrev pub issue_rows : ℕ → List Feed → List ℕ
issue_rows row [] = []
issue_rows row (feed.Fed number ∷ more) = issue_rows (suc row) more
issue_rows row (feed.Issued request ∷ more) = row ∷ issue_rows row more
issue_rows row (feed.Stopped ∷ more) = issue_rows row more

-- The rows that the requests wait for. At a live feeder a request that is issued has the row after
-- which it was issued, and any later request has the last row.
abbrev pub waits : Bool → SetupView → ℕ → FeederIs → List ℕ
waits false setup rows f = afters setup.requests
waits true setup rows f =
    take f.begin_turned (afters setup.requests) ++ issue_rows f.begin_row f.feeds
    ++ replicate (length setup.requests - f.issued) rows

-- the end of the stream of a lane, if the lane is among those that were ended
abbrev pub end_at : ℕ → ℕ → List Item
end_at place ended = if nat_lt place ended then item.Last ∷ [] else []

-- An endpoint with this number and origin is that of the lane, which begins at the origin's node.
pub record IsEndpointOf (job : JobView) (graph : Graph) (lane : Lane) (number : ℕ)
    (origin : Origin) : Type 0 where
  pub edge : Edge
  pub numbered : slice_get (lanes job) number ≡ Some lane
  pub edge_is : slice_get job.edges lane.edge ≡ Some edge
  pub origin_is : origin ≡ record { graph = graph; from = edge.from }

-- The endpoint of a lane of a source: it begins at the source, and has sent what the feed so far
-- puts there, followed by the end of the stream if the lane was ended.
pub record IsOut (job : JobView) (turned : ℕ) (rows : List Row) (graph : Graph)
    (feeds : List Feed) (ended place : ℕ) (lane : Lane) (out : EndpointIs) : Type 0 where
  pub endpoint : IsEndpointOf job graph lane out.number out.origin
  pub sent_is : out.items ≡ fed job rows turned lane feeds ++ end_at place ended

-- What no turn changes: where the feeder began, the graph of the job and the places of its lanes.
pub record HasBegun (job : JobView) (begin : Begin) (row turned : ℕ) (places : List ℕ)
    : Type 0 where
  pub row_begun : row ≡ begin.row
  pub turned_begun : turned ≡ begin.turned
  pub graph : Graph
  pub graph_is : IsGraphOf job graph
  pub places_are : places ≡ places_of job

-- The feed so far is the front of the feed from the beginning, and all of it after the stop.
pub record IsOnCourse (begin : Begin) (afters : List ℕ) (rows : ℕ) (feeds : List Feed)
    (row issued : ℕ) (has_stopped : Bool) : Type 0 where
  pub in_order : AreRising 0 afters
  pub issued_within : issued ≤ length afters
  pub counted : issued ≡ begin.turned + issued_in feeds
  -- the feed so far, followed by the feed from here on, is the feed from the beginning
  pub going :
      has_stopped ≡ false
      → feed_from begin.row begin.turned afters rows ≡ feeds ++ feed_from row issued afters rows
  pub stopped : has_stopped ≡ true → feeds ≡ feed_from begin.row begin.turned afters rows

-- The endpoints are those of the lanes of the sources, in the order of these lanes.
pub record AreOuts (job : JobView) (turned : ℕ) (rows : List Row) (graph : Graph)
    (feeds : List Feed) (ended : ℕ) (endpoints : List EndpointIs) : Type 0 where
  pub outs_are : length endpoints ≡ length (fed_lanes job)
  pub outs :
      (place : ℕ) (lane : Lane) (out : EndpointIs)
      → slice_get (fed_lanes job) place ≡ Some lane → slice_get endpoints place ≡ Some out
      → IsOut job turned rows graph feeds ended place lane out

-- A lane is ended only after all rows and requests, and each is ended before the stop.
pub record AreEnded (requests rows outs row issued ended : ℕ) (stopped : Bool) : Type 0 where
  pub ended_within : ended ≤ outs
  pub ending : 0 < ended → (rows ≤ row) × (issued ≡ requests)
  pub all_ended : stopped ≡ true → ended ≡ outs

-- a tuple that is held is that of the next row
abbrev pub IsNextHeld : List Row → ℕ → ℕ → Option Tuple → Type 0
IsNextHeld rows row issued held =
    (t : Tuple) (next : Row) → held ≡ Some t → slice_get rows row ≡ Some next
    → record t { issued = issued } ≡ fed_tuple issued next

-- The law of a feeder from a beginning on, if the requests wait for these rows.
pub record IsFeeding (setup : SetupView) (begin : Begin) (afters : List ℕ) (rows : List Row)
    (f : FeederIs) : Type 0 where
  pub begun : HasBegun setup.job begin f.begin_row f.begin_turned f.places
  pub course : IsOnCourse begin afters (length rows) f.feeds f.row f.issued f.stopped
  pub lanes : AreOuts setup.job begin.turned rows begun.graph f.feeds f.ended f.outs
  pub ended :
      AreEnded (length afters) (length rows) (length f.outs) f.row f.issued f.ended f.stopped
  pub boxes : AreBoxes setup begin.turned f.issued f.boxes
  pub held : IsNextHeld rows f.row f.issued f.held

-- The law of a feeder, live or not: it holds for the rows that its requests wait for; it has issued
-- requests of the setup only; none of the rows is before the row that the setup asks for; and while
-- rows are left, a live feeder has loaded that each request of its feed was released.
pub record IsFeeder (live : Bool) (setup : SetupView) (begin : Begin) (rows : List Row)
    (f : FeederIs) : Type 0 where
  pub feeding : IsFeeding setup begin (waits live setup (length rows) f) rows f
  pub issued_exist : f.issued ≤ length setup.requests
  pub not_before :
      (place after waited : ℕ) → slice_get (afters setup.requests) place ≡ Some after
      → slice_get (waits live setup (length rows) f) place ≡ Some waited
      → min after (length rows) ≤ waited
  pub released :
      live ≡ true → f.row < length rows → (r : ℕ) → Contains f.feeds (feed.Issued r)
      → LastAtLeast r f.loads
