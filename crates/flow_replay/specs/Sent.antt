-- What the replay of a journal sends.
use Rattle.std.specs.Prelude.{ℕ, List, get_or, map}
use Rattle.std.specs.FinMap.{empty}
use Rattle.keyed_state.specs.Counts.{Counts}
use Rattle.sink_journal.specs.declared.journal.Entry.{Entry}
use Rattle.tuple_trace.specs.declared.tuple.Item.{Item}
use Rattle.flow_model.specs.declared.topology.Lane.{Lane}
use Rattle.flow_model.specs.Begin.{Begin, view_at}
use Rattle.flow_model.specs.Lanes.{lanes_out}
use Rattle.flow_model.specs.SetupView.{SetupView, Worker}
use Rattle.flow_model.specs.Replay.{StateView, items_sent}
use Rattle.flow_model.specs.Workers.{nth_worker}

-- the counts of a worker at a beginning
abbrev pub begun_counts : Begin → ℕ → Counts
begun_counts begin worker = get_or begin.states worker empty

-- what is in force at a worker at a beginning
abbrev pub begun_view : SetupView → Begin → ℕ → StateView
begun_view setup begin worker =
    view_at setup begin.turned (nth_worker setup.job worker) (begun_counts begin worker)

-- what the replay of a journal sends on each lane out, from what is in force on
abbrev pub all_sent : SetupView → Worker → StateView → List Entry → List (List Item)
all_sent setup who view journal =
    map (λ (lane : Lane). items_sent setup who view lane journal) (lanes_out setup.job who.number)
