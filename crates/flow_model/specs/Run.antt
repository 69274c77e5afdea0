-- What a run is.
use Rattle.std.specs.Prelude.{◌≡◌, ℕ, List, [], ◌∷◌, ◌++◌, length, Option, Some, None, slice_get}
use Rattle.keyed_state.specs.Counts.{Counts}
use Rattle.sink_journal.specs.declared.journal.Entry.{Entry}
use Rattle.sink_journal.specs.declared.journal.Feed.{Feed}
use Rattle.tuple_trace.specs.declared.row.Row.{Row}
use Rattle.tuple_trace.specs.declared.tuple.Item.{Item}
use Rattle.tuple_trace.specs.declared.tuple.Item.TheVariants as item
use Rattle.flow_model.specs.declared.topology.Lane.{Lane}
use Rattle.flow_model.specs.SetupView.{SetupView, Worker}
use Rattle.flow_model.specs.Begin.{Begin, at_first, view_at}
use Rattle.flow_model.specs.Feeding.{fed, feed_from}
use Rattle.flow_model.specs.Lanes.{lanes}
use Rattle.flow_model.specs.Law.{IsFinished, IsLawfulJournal}
use Rattle.flow_model.specs.Replay.{after_all, items_sent, shown}
use Rattle.flow_model.specs.Requests.{afters}
use Rattle.flow_model.specs.Duties.{duties}
use Rattle.flow_model.specs.Workers.{workers_in}

-- What a run leaves: its setup, what the feeder did, what each worker did, and the counts of each
-- worker at the end.
pub record Ran : Type 0 where
  pub setup : SetupView
  pub feeds : List Feed
  pub journals : List (List Entry)
  pub states : List Counts

-- what a run with these parts leaves
abbrev pub ran_as : SetupView → List Feed → List (List Entry) → List Counts → Ran
ran_as setup feeds journals states = record {
  setup = setup;
  feeds = feeds;
  journals = journals;
  states = states;
}

-- the journal of a worker is lawful so far, from this beginning on
abbrev pub IsLawfulFrom : SetupView → Begin → Worker → List Entry → Type 0
IsLawfulFrom setup begin who journal = IsLawfulJournal (duties setup begin.turned who) journal

-- the journal of a worker is finished, from this beginning on
abbrev pub IsFinishedFrom : SetupView → Begin → Worker → List Entry → Type 0
IsFinishedFrom setup begin who journal = IsFinished (duties setup begin.turned who) journal

-- the counts at the end of a journal
abbrev pub final_counts : SetupView → Begin → Worker → Counts → List Entry → Counts
final_counts setup begin who counts journal = (after_all setup who
    (view_at setup begin.turned who counts) journal).counts

-- what the journal of a worker sends on a lane
abbrev pub sent_by : SetupView → Begin → Lane → Option Worker → Option Counts → Option (List Entry)
    → Option (List Item)
sent_by setup begin lane (Some who) (Some counts) (Some journal) =
    Some (items_sent setup who (view_at setup begin.turned who counts) lane journal)
sent_by setup begin lane _ _ _ = None

-- what a sender puts on a lane: the feeder its rows and then the end, and a worker what the replay
-- of its journal sends
abbrev pub put_by : Begin → List Row → Ran → Lane → Option ℕ → Option (List Item)
put_by begin rows ran lane None = Some (fed ran.setup.job rows begin.turned lane ran.feeds
    ++ item.Last ∷ [])
put_by begin rows ran lane (Some worker) =
    sent_by ran.setup begin lane (slice_get (workers_in ran.setup.job) worker)
    (slice_get begin.states worker) (slice_get ran.journals worker)

-- the journal of a worker is finished, and its counts are those of the journal's replay
pub record IsWorked (setup : SetupView) (begin : Begin) (who : Worker) (counts : Counts)
    (journal : List Entry) (state : Counts) : Type 0 where
  pub finished : IsFinishedFrom setup begin who journal
  pub state_is : state ≡ final_counts setup begin who counts journal

-- what was left is a run of these rows, from this beginning on
pub record IsRunFrom (begin : Begin) (rows : List Row) (ran : Ran) : Type 0 where
  -- the feeder fed each row and issued each request after its row
  pub feed : ran.feeds ≡ feed_from begin.row begin.turned (afters ran.setup.requests) (length rows)
  -- each worker has its counts at the beginning, one journal, and its counts at the end
  pub one_start_each : length begin.states ≡ length (workers_in ran.setup.job)
  pub one_journal_each : length ran.journals ≡ length (workers_in ran.setup.job)
  pub one_state_each : length ran.states ≡ length (workers_in ran.setup.job)
  pub worked :
      (w : ℕ) (who : Worker) (counts : Counts) (journal : List Entry) (state : Counts) →
      slice_get (workers_in ran.setup.job) w ≡ Some who → slice_get begin.states w ≡ Some counts →
      slice_get ran.journals w ≡ Some journal → slice_get ran.states w ≡ Some state →
      IsWorked ran.setup begin who counts journal state
  -- each lane shows, in order, what was put on it
  pub conserved :
      (n : ℕ) (lane : Lane) (journal : List Entry) → slice_get (lanes ran.setup.job) n ≡ Some lane →
      slice_get ran.journals lane.receiver ≡ Some journal
      → put_by begin rows ran lane lane.sender ≡ Some (shown ran.setup n journal)

-- what was left is a run of this setup and these rows, from this beginning on
pub record IsRunSince (begin : Begin) (setup : SetupView) (rows : List Row)
    (ran : Ran) : Type 0 where
  pub setup_is : ran.setup ≡ setup
  pub run : IsRunFrom begin rows ran

-- what was left is a run of this setup and these rows, from the beginning of all on
abbrev pub IsRun : SetupView → List Row → Ran → Type 0
IsRun setup rows ran = IsRunSince (at_first setup) setup rows ran
