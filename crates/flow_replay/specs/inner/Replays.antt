-- Replays, entry by entry.
use Rattle.std.specs.Prelude.{◌≡◌, ◌==◌, ◌++◌, ⊤, ℕ, Bool, true, List, [], ◌∷◌, length, replicate}
use Rattle.std.specs.Prelude.{Option, Some, None, slice_get, if◌then◌else◌}
use Rattle.cover_planner.specs.declared.cover.Plan.{Plan}
use Rattle.jobs.specs.JobView.{JobView}
use Rattle.sink_journal.specs.declared.journal.Entry.{Entry}
use Rattle.tuple_trace.specs.declared.tuple.Item.{Item}
use Rattle.tuple_trace.specs.declared.tuple.Item.TheVariants as item
use Rattle.flow_model.specs.Covers.{covers_edge, plan_of}
use Rattle.flow_model.specs.Lanes.{lane_at, lanes, lanes_out, out_numbers}
use Rattle.flow_model.specs.declared.topology.Lane.{Lane}
use Rattle.flow_model.specs.SetupView.{SetupView, Worker}
use Rattle.flow_model.specs.Replay.{StateView, Put, after, after_all, items_on, puts}
use Rattle.flow_model.specs.WorkerState.{state_view}
use Rattle.flow_model.specs.Workers.{nth_worker}
use Rattle.flow_replay.specs.declared.replaying.Onto.{Onto}
use Rattle.flow_replay.specs.declared.replaying.Onto.TheVariants as onto
use Rattle.flow_replay.specs.declared.replaying.Replaying.{Replaying}
use Rattle.flow_replay.specs.Sent.{all_sent}

-- these are the numbers of these lanes
abbrev pub AreNumbersOf : JobView → List Lane → List ℕ → Type 0
AreNumbersOf job [] [] = ⊤
AreNumbersOf job [] (number ∷ numbers) = ⊥
AreNumbersOf job (lane ∷ lanes') [] = ⊥
AreNumbersOf job (lane ∷ lanes') (number ∷ numbers) =
    (slice_get (lanes job) number ≡ Some lane) × AreNumbersOf job lanes' numbers

-- the lane with this number is among those that an item is put on
abbrev pub reaches : SetupView → Onto → ℕ → Bool
reaches setup (onto.Lane lane) number = number == lane
reaches setup (onto.Covered request) number =
    covers_edge setup request (lane_at setup.job number).edge
reaches setup onto.All number = true

-- a list, with an item at the end or not
abbrev pub item_if : Bool → Item → List Item → List Item
item_if reached item list = if reached then list ++ item ∷ [] else list

-- the lists of these lanes, with an item at the end of those that pass the test
abbrev pub with_item : (ℕ → Bool) → Item → List ℕ → List (List Item) → List (List Item)
with_item test item [] lists = []
with_item test item (number ∷ numbers) [] = []
with_item test item (number ∷ numbers) (list ∷ lists) =
    item_if (test number) item list ∷ with_item test item numbers lists

-- the lists of these lanes, with the marker of a request on those that it covers
abbrev pub with_marker_of : SetupView → ℕ → Option Plan → List ℕ → List (List Item)
    → List (List Item)
with_marker_of setup request None numbers lists = lists
with_marker_of setup request (Some plan) numbers lists =
    with_item (reaches setup (onto.Covered request)) (item.Mark request plan.nodes) numbers lists

abbrev pub with_markers : SetupView → ℕ → List ℕ → List (List Item) → List (List Item)
with_markers setup request numbers lists =
    with_marker_of setup request (plan_of setup request) numbers lists

-- the lists of these lanes, each with what is put on its lane at the end
abbrev pub with_puts : List Lane → List Put → List (List Item) → List (List Item)
with_puts [] puts lists = []
with_puts (lane ∷ lanes') puts [] = []
with_puts (lane ∷ lanes') puts (list ∷ lists) =
    (list ++ items_on lane puts) ∷ with_puts lanes' puts lists

-- what is in force in the middle of a replay
abbrev pub replay_view : SetupView → Worker → Replaying → StateView
replay_view setup who replay = state_view setup who replay.state

-- a replay that has gone through no entry has this in force
pub record IsBegun (setup : SetupView) (worker : ℕ) (view : StateView)
    (replay : Replaying) : Type 0 where
  pub view_is : replay_view setup (nth_worker setup.job worker) replay ≡ view
  pub lists_are : replay.lists.items ≡ replicate (length (out_numbers setup.job worker)) []

-- a replay has gone on by one entry
pub record IsEntered (setup : SetupView) (who : Worker) (entry : Entry)
    (old new : Replaying) : Type 0
  where
    pub view : replay_view setup who new ≡ after setup who (replay_view setup who old) entry
    pub lists :
        new.lists.items
        ≡ with_puts (lanes_out setup.job who.number)
        (puts setup who (replay_view setup who old) entry) old.lists.items

-- a replay has gone through this journal, from what was in force on
pub record IsReplayed (setup : SetupView) (who : Worker) (view : StateView) (journal : List Entry)
    (replay : Replaying) : Type 0 where
  pub view_is : replay_view setup who replay ≡ after_all setup who view journal
  pub lists_are : replay.lists.items ≡ all_sent setup who view journal
