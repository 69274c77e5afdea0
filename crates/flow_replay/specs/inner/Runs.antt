-- What the workers have done so far.
use Rattle.std.specs.Prelude.{◌≡◌, ◌≢◌, ◌<◌, ◌≤◌, ◌++◌, ℕ, List, [], ◌∷◌, length, map, Option, Some}
use Rattle.std.specs.Prelude.{None, slice_get, slice_index_or, if◌then◌else◌}
use Rattle.std.specs.FinMap.{empty}
use Rattle.jobs.specs.JobView.{JobView}
use Rattle.sink_journal.specs.declared.journal.Entry.{Entry}
use Rattle.sink_journal.specs.declared.journal.Entry.TheVariants as entry
use Rattle.tuple_trace.specs.declared.tuple.Item.{Item}
use Rattle.tuple_trace.specs.declared.tuple.Tuple.{Tuple}
use Rattle.operators.specs.declared.output.Output.{Output}
use Rattle.flow_model.specs.Begin.{view_at}
use Rattle.flow_model.specs.Covers.{covers}
use Rattle.flow_model.specs.Lanes.{is_same_lane, lanes, lanes_in, marked_lanes}
use Rattle.flow_model.specs.declared.topology.Lane.{Lane}
use Rattle.flow_model.specs.SetupView.{SetupView, Worker}
use Rattle.flow_model.specs.Replay.{StateView, Put, after, after_all, items_on, items_sent, shown}
use Rattle.flow_model.specs.WorkerState.{first_state, made, state_view}
use Rattle.flow_model.specs.Workers.{nth_worker}
use Rattle.flow_replay.specs.declared.worker_run.WorkerRun.{WorkerRun}

abbrev pub empty_run : WorkerRun
empty_run = record { journal = []; state = first_state }

abbrev pub run_at : List WorkerRun → ℕ → WorkerRun
run_at runs worker = slice_index_or runs worker empty_run

abbrev pub journal_at : List WorkerRun → ℕ → List Entry
journal_at runs worker = (run_at runs worker).journal

-- what is in force at a worker
abbrev pub run_view : SetupView → Worker → WorkerRun → StateView
run_view setup who run = state_view setup who run.state

-- what a worker makes of a tuple
abbrev pub made_at : SetupView → Worker → WorkerRun → Tuple → List Output
made_at setup who run tuple = made setup who (run_view setup who run) tuple

-- what is in force at a worker at first
abbrev pub first_view : SetupView → Worker → StateView
first_view setup who = view_at setup 0 who empty

-- what is in force at each worker is what its journal makes of the beginning
abbrev pub AreInForce : SetupView → List WorkerRun → Type 0
AreInForce setup runs =
    (w : ℕ) → w < length runs →
    run_view setup (nth_worker setup.job w) (run_at runs w)
    ≡ after_all setup (nth_worker setup.job w) (first_view setup (nth_worker setup.job w))
    (journal_at runs w)

-- no lane in has ended at any worker
abbrev pub AreOpen : List WorkerRun → Type 0
AreOpen runs = (w : ℕ) → w < length runs → (run_at runs w).state.ended ≡ 0

-- ---- what one worker's journal gains

-- one worker's journal gained an entry
pub record IsStep (setup : SetupView) (w : ℕ) (entry : Entry) (old new : List WorkerRun) : Type 0
  where
    pub long : length new ≡ length old
    pub journal : journal_at new w ≡ journal_at old w ++ entry ∷ []
    pub view :
        run_view setup (nth_worker setup.job w) (run_at new w)
        ≡ after setup (nth_worker setup.job w)
        (run_view setup (nth_worker setup.job w) (run_at old w)) entry
    pub others : (v : ℕ) → v ≢ w → run_at new v ≡ run_at old v

-- a worker gained these entries, and what they put in force
pub record IsGain (setup : SetupView) (who : Worker) (more : List Entry) (old new : WorkerRun)
    : Type 0 where
  pub journal : new.journal ≡ old.journal ++ more
  pub view : run_view setup who new ≡ after_all setup who (run_view setup who old) more

-- each worker gained its entries
pub record AllGain (setup : SetupView) (block : ℕ → List Entry) (old new : List WorkerRun)
    : Type 0 where
  pub long : length new ≡ length old
  pub each :
      (w : ℕ) → w < length old →
      IsGain setup (nth_worker setup.job w) (block w) (run_at old w) (run_at new w)

abbrev pub marks : ℕ → List ℕ → List Entry
marks request lanes = map (λ (lane : ℕ). entry.Marked lane request) lanes

-- what a covered worker notes if a request is issued: its markers, by their lanes, and the turn
abbrev pub turn_entries : SetupView → ℕ → ℕ → List Entry
turn_entries setup request w =
    marks request (marked_lanes setup w request) ++ entry.Turned request ∷ []

-- what any worker notes then
abbrev pub turn_block : SetupView → ℕ → ℕ → List Entry
turn_block setup request w =
    if covers setup request (nth_worker setup.job w).node then turn_entries setup request w else []

-- the entries with which these lanes end
abbrev pub ended_entries : List ℕ → List Entry
ended_entries lanes = map (λ (lane : ℕ). entry.Ended lane) lanes

-- what a worker notes at the end: the end of each lane in
abbrev pub end_block : JobView → ℕ → List Entry
end_block job w = ended_entries (lanes_in job w)

-- ---- what is on the lanes

-- what a sender has put on a lane so far: the feeder these items, a worker what its replay sends
abbrev pub put_so_far : SetupView → List Put → List WorkerRun → Lane → Option ℕ → List Item
put_so_far setup fed runs lane None = items_on lane fed
put_so_far setup fed runs lane (Some w) =
    items_sent setup (nth_worker setup.job w) (first_view setup (nth_worker setup.job w)) lane
    (journal_at runs w)

-- each lane shows what was put on it, but for what is in flight
abbrev pub IsConserved : SetupView → List Put → List WorkerRun → (Lane → List Item) → Type 0
IsConserved setup fed runs in_flight =
    (n : ℕ) (lane : Lane) → slice_get (lanes setup.job) n ≡ Some lane →
    put_so_far setup fed runs lane lane.sender
    ≡ shown setup n (journal_at runs lane.receiver) ++ in_flight lane

abbrev pub nothing : Lane → List Item
nothing lane = []

-- one more item is in flight on a lane, before the earlier ones
abbrev pub with_item : Lane → Item → (Lane → List Item) → Lane → List Item
with_item at item in_flight lane =
    if is_same_lane (Some at) lane then item ∷ in_flight lane else in_flight lane

-- the node from which a lane leads
abbrev pub from_node : JobView → Lane → ℕ
from_node job lane =
    (slice_index_or job.edges lane.edge (record { from = 0; port = 0; to = 0 })).from

-- nothing is in flight from nodes of this rank or a higher one
abbrev pub IsQuiescentFrom : JobView → (ℕ → ℕ) → ℕ → (Lane → List Item) → Type 0
IsQuiescentFrom job rank least in_flight =
    (n : ℕ) (lane : Lane) → slice_get (lanes job) n ≡ Some lane →
    least ≤ rank (from_node job lane) → in_flight lane ≡ []
