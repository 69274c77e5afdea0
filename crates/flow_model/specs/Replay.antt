-- What a journal says of its worker: the counts at its end, and what it sends on each lane.
use Rattle.std.specs.Prelude.{◌+◌, ◌==◌, ℕ, Bool, List, [], ◌∷◌, ◌++◌, length, map, filter, Option}
use Rattle.std.specs.Prelude.{Some, None, if◌then◌else◌}
use Rattle.std.specs.List.{filter_map, flat_map}
use Rattle.cover_planner.specs.declared.cover.Plan.{Plan}
use Rattle.keyed_state.specs.Counts.{Counts, carried}
use Rattle.jobs.specs.declared.func.Func.{Func}
use Rattle.jobs.specs.JobView.{JobView}
use Rattle.operators.specs.Meaning.{step}
use Rattle.operators.specs.declared.output.Output.{Output}
use Rattle.sink_journal.specs.declared.journal.Entry.{Entry}
use Rattle.sink_journal.specs.declared.journal.Entry.TheVariants as entry
use Rattle.tuple_trace.specs.declared.tuple.Item.{Item}
use Rattle.tuple_trace.specs.declared.tuple.Item.TheVariants as item
use Rattle.tuple_trace.specs.declared.tuple.Visit.{Visit}
use Rattle.versions.specs.declared.request.Change.{Change}
use Rattle.flow_model.specs.declared.topology.Lane.{Lane}
use Rattle.flow_model.specs.SetupView.{SetupView, Worker}
use Rattle.flow_model.specs.Covers.{covers_edge, plan_of}
use Rattle.flow_model.specs.Lanes.{is_same_lane, lane_of, lanes_in, lanes_out}
use Rattle.flow_model.specs.Requests.{change_by}

-- What is in force at a worker: its function and its counts, the latest request turned, and how
-- many lanes have ended.
pub record StateView : Type 0 where
  pub func : Func
  pub counts : Counts
  pub last : ℕ
  pub ended : ℕ

-- what a change puts in force: its function, and the counts that it carries over
abbrev pub after_change : Option Change → StateView → StateView
after_change None view = view
after_change (Some change) view = record view {
  func = change.func;
  counts = carried change.carry view.counts;
}

-- the visit of a tuple to a worker
abbrev pub visit_at : Worker → StateView → Visit
visit_at who view = record { node = who.node; worker = who.place; last = view.last }

-- what is in force after an entry
abbrev pub after : SetupView → Worker → StateView → Entry → StateView
after setup who view (entry.Met lane tuple) = record view {
  counts =
      (step setup.job (visit_at who view) view.func view.counts tuple).0;
}
after setup who view (entry.Marked lane request) = view
after setup who view (entry.Turned request) = record
    (after_change (change_by setup request who.node) view) { last = request }
after setup who view (entry.Ended lane) = record view { ended = view.ended + 1 }

-- what is in force after a journal
abbrev pub after_all : SetupView → Worker → StateView → List Entry → StateView
after_all setup who view [] = view
after_all setup who view (entry ∷ more) = after_all setup who (after setup who view entry) more

-- An item that is put on a lane.
pub record Put : Type 0 where
  pub lane : Option Lane
  pub item : Item

-- an output of a node goes on the lane of its port
abbrev pub put_out : JobView → Worker → Output → Put
put_out job who output =
    record {
      lane = lane_of job (Some who.number) who.node output.port output.tuple;
      item = item.Carry output.tuple;
    }

-- an item for each of these lanes
abbrev pub put_on_each : Item → List Lane → List Put
put_on_each item lanes = map (λ (lane : Lane). record { lane = Some lane; item = item }) lanes

-- the marker of a request, with the nodes that its plan covers
abbrev pub marker_by : ℕ → Option Plan → List Item
marker_by request None = []
marker_by request (Some plan) = item.Mark request plan.nodes ∷ []

-- the marker of a request of the setup: no item if there is no such request
abbrev pub marker : SetupView → ℕ → List Item
marker setup request = marker_by request (plan_of setup request)

-- the next end of a lane is that of the last one
abbrev pub is_last_end : SetupView → Worker → StateView → Bool
is_last_end setup who view = view.ended + 1 == length (lanes_in setup.job who.number)

-- what a worker puts on its lanes at an entry: the outputs for a tuple; at a turn the marker, on
-- each covered lane out; an end on each lane out once the last lane in has ended
abbrev pub puts : SetupView → Worker → StateView → Entry → List Put
puts setup who view (entry.Met lane tuple) =
    map (put_out setup.job who) (step setup.job (visit_at who view) view.func view.counts tuple).1
puts setup who view (entry.Marked lane request) = []
puts setup who view (entry.Turned request) =
    flat_map (λ mark. put_on_each mark (filter
    (λ (lane : Lane). covers_edge setup request lane.edge) (lanes_out setup.job who.number)))
    (marker setup request)
puts setup who view (entry.Ended lane) =
    if is_last_end setup who view then put_on_each item.Last (lanes_out setup.job who.number)
    else []

-- the item that is put, if it is put on this lane
abbrev pub item_on : Lane → Put → Option Item
item_on lane put = if is_same_lane put.lane lane then Some put.item else None

-- the items that are put on one lane
abbrev pub items_on : Lane → List Put → List Item
items_on lane puts = filter_map (item_on lane) puts

-- what the replay of a journal sends on a lane, from what is in force on
abbrev pub items_sent : SetupView → Worker → StateView → Lane → List Entry → List Item
items_sent setup who view lane [] = []
items_sent setup who view lane (entry ∷ more) = items_on lane (puts setup who view entry)
    ++ items_sent setup who (after setup who view entry) lane more

-- the items that came in by the lane with this number, at an entry
abbrev pub came_in : SetupView → ℕ → Entry → List Item
came_in setup lane (entry.Met from tuple) = if from == lane then item.Carry tuple ∷ [] else []
came_in setup lane (entry.Marked from request) = if from == lane then marker setup request else []
came_in setup lane (entry.Turned request) = []
came_in setup lane (entry.Ended from) = if from == lane then item.Last ∷ [] else []

-- the items of a lane that a journal shows
abbrev pub shown : SetupView → ℕ → List Entry → List Item
shown setup lane journal = flat_map (came_in setup lane) journal
