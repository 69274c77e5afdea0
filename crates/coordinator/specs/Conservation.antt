-- What finished workers and settled lanes leave.
use Rattle.std.specs.Prelude.{◌≡◌, ℕ, List, [], Some, slice_get}
use Rattle.sink_journal.specs.declared.journal.Entry.{Entry}
use Rattle.tuple_trace.specs.declared.row.Row.{Row}
use Rattle.tuple_trace.specs.declared.tuple.Item.{Item}
use Rattle.flow_model.specs.Begin.{Begin}
use Rattle.flow_model.specs.SetupView.{Worker}
use Rattle.flow_model.specs.declared.topology.Lane.{Lane}
use Rattle.flow_model.specs.Replay.{shown}
use Rattle.flow_model.specs.Run.{IsFinishedFrom, Ran, put_by}
use Rattle.flow_model.specs.Workers.{workers_in}

-- the journal of each worker is finished
abbrev pub AreFinished : Begin → Ran → Type 0
AreFinished begin ran =
    (w : ℕ) (who : Worker) (journal : List Entry)
    → slice_get (workers_in ran.setup.job) w ≡ Some who
    → slice_get ran.journals w ≡ Some journal → IsFinishedFrom ran.setup begin who journal

-- a lane that was settled: nothing is left on it, and it shows what was put on it
pub record IsConservedLane (begin : Begin) (rows : List Row) (ran : Ran) (n : ℕ) (lane : Lane)
    (journal : List Entry) (left : List Item) : Type 0 where
  pub none_left : left ≡ []
  pub conserved : put_by begin rows ran lane lane.sender ≡ Some (shown ran.setup n journal)
