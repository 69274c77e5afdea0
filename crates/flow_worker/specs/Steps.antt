-- What the steps of a turn do.
use Rattle.std.specs.Prelude.{◌≡◌, ℕ, zero, suc, ◌+◌, ◌<◌, ◌≤◌, ◌==◌, List, [], ◌∷◌, ◌++◌, true}
use Rattle.std.specs.Prelude.{All, length, map, set, Option, Some, None, slice_get, get_or}
use Rattle.std.specs.Prelude.{if◌then◌else◌}
use Rattle.flow_dag.specs.Masks.{has}
use Rattle.jobs.specs.JobView.{JobView}
use Rattle.jobs.specs.declared.func.Func.{Func}
use Rattle.marker_align.specs.declared.decision.Due.{Due}
use Rattle.marker_align.specs.declared.held.Hand.TheVariants.{Empty, Holds}
use Rattle.operators.specs.Lanes.{worker_along}
use Rattle.sink_journal.specs.declared.journal.Entry.{Entry}
use Rattle.sink_journal.specs.declared.journal.Entry.TheVariants.{Met, Marked, Turned, Ended}
use Rattle.tuple_trace.specs.declared.tuple.Item.{Item}
use Rattle.tuple_trace.specs.declared.tuple.Item.TheVariants.{Carry, Mark, Last}
use Rattle.tuple_trace.specs.declared.tuple.Tuple.{Tuple}
use Rattle.flow_model.specs.Covers.{covers_edge}
use Rattle.flow_model.specs.Lanes.{lanes}
use Rattle.flow_model.specs.declared.topology.Lane.{Lane}
use Rattle.flow_model.specs.SetupView.{SetupView, Worker as WorkerOf}
use Rattle.flow_model.specs.Replay.{StateView, Put, after, items_on, puts}
use Rattle.flow_model.specs.Requests.{change_by, func_with}
use Rattle.flow_model.specs.declared.topology.OutEdge.{OutEdge}
use Rattle.flow_worker.specs.Pairs.{EachPair}
use Rattle.flow_worker.specs.Endpoints.{Filled, Flushed, Gains, LaneInIs, LaneOutIs, SameButMemory}
use Rattle.flow_model.specs.Dues.{IsDueAfter, edges_in}
use Rattle.flow_model.specs.InForce.{counts_with, func_in}
use Rattle.flow_worker.specs.Worker.{WorkerIs}

-- ---- puts, takes, polls, memory

pub record PutsOnly (w v : WorkerIs) : Type 0 where
  pub rest : v ≡ record w { outs = v.outs }
  pub outs : EachPair Flushed w.outs v.outs

pub record TakesOnly (w v : WorkerIs) : Type 0 where
  pub rest : v ≡ record w { ins = v.ins }
  pub ins : EachPair Filled w.ins v.ins

pub record PollsOnly (w v : WorkerIs) (n : ℕ) : Type 0 where
  pub rest : v ≡ record w { owner = v.owner }
  pub within : v.owner.within ≡ w.owner.within
  pub turned : v.owner.turned ≡ w.owner.turned
  pub polls : v.owner.polls ≡ w.owner.polls ++ n ∷ []
  pub rises : All (λ poll. poll ≤ n) w.owner.polls

-- memory for what will be written
pub record MemoryOnly (w v : WorkerIs) : Type 0 where
  pub rest : v ≡ record w { outs = v.outs; memory = v.memory }
  pub outs : EachPair SameButMemory w.outs v.outs

-- ---- a turn of a request

-- the hands of the mask are empty now; the first place is i
abbrev pub emptied : ℕ → ℕ → List LaneInIs → List LaneInIs
emptied mask i [] = []
emptied mask i (a ∷ more) =
    (if has mask i then record a { hand = Empty } else a) ∷ emptied mask (i + 1) more

-- the markers that were in these hands
abbrev pub marked_entries : ℕ → ℕ → ℕ → List LaneInIs → List Entry
marked_entries mask r i [] = []
marked_entries mask r i (a ∷ more) =
    (if has mask i then Marked a.number r ∷ [] else []) ++ marked_entries mask r (i + 1) more

-- the marker, on a covered edge
abbrev pub marker_on : SetupView → ℕ → ℕ → LaneOutIs → List Item
marker_on setup r cover out = if covers_edge setup r out.edge then Mark r cover ∷ [] else []

pub record HasTurned (setup : SetupView) (due : Due) (w v : WorkerIs) : Type 0 where
  pub journal : v.journal ≡
      w.journal ++ marked_entries due.lanes due.request 0 w.ins ++ Turned due.request ∷ []
  pub ins : v.ins ≡ emptied due.lanes 0 w.ins
  pub outs : EachPair (Gains (marker_on setup due.request due.cover)) w.outs v.outs
  pub func : (func : Func) → func_in setup w.node w.in_force ≡ Some func →
      func_in setup w.node v.in_force ≡ Some (func_with (change_by setup due.request w.node) func)
  pub counts : v.counts ≡ counts_with (change_by setup due.request w.node) w.counts
  pub last : v.last ≡ due.request
  pub later : IsDueAfter setup w.node (edges_in setup.job w.number) due.request v.due
  pub turned : v.owner.turned ≡ w.owner.turned + 1
  pub polls : v.owner.polls ≡ w.owner.polls
  pub within : v.owner.within ≡ w.owner.within
  pub rest : v ≡ record w {
    journal = v.journal;
    ins = v.ins;
    outs = v.outs;
    in_force = v.in_force;
    counts = v.counts;
    last = v.last;
    due = v.due;
    owner = v.owner;
    memory = v.memory;
  }

-- ---- a tuple

-- the place, among the lanes out, of a tuple's lane on a port; the first lane of these edges out
-- has the place `first`
abbrev pub place_from : JobView → ℕ → List OutEdge → ℕ → Tuple → Option ℕ
place_from job first [] port tuple = None
place_from job first (edge ∷ more) port tuple =
    if edge.port == port then Some (first + worker_along job edge.edge tuple)
    else place_from job (first + edge.receivers) more port tuple

abbrev pub items_if : Option Lane → List Put → List Item
items_if None puts = []
items_if (Some lane) puts = items_on lane puts

-- the items that are put on the lane with this number
abbrev pub items_at : JobView → List Put → ℕ → List Item
items_at job puts number = items_if (slice_get (lanes job) number) puts

-- the item waits behind the earlier ones of the lane at a place
abbrev pub pushed : Item → LaneOutIs → LaneOutIs
pushed item out = record out { waiting = out.waiting ++ item ∷ [] }

pub record PushedAt (place : ℕ) (item : Item) (outs more : List LaneOutIs) : Type 0 where
  pub at : LaneOutIs
  pub at_is : (d : LaneOutIs) → at ≡ pushed item (get_or outs place d)
  pub set_is : more ≡ set outs place at

-- a tuple is in hand at this place
abbrev pub HasTuple : List LaneInIs → ℕ → Type 0
HasTuple ins place =
    (a : LaneInIs) × (t : Tuple) × (slice_get ins place ≡ Some a) × (a.hand ≡ Holds (Carry t))

-- the hand at this place is empty now
abbrev pub laid_down : ℕ → List LaneInIs → List LaneInIs
laid_down place [] = []
laid_down zero (a ∷ more) = record a { hand = Empty } ∷ more
laid_down (suc place) (a ∷ more) = a ∷ laid_down place more

-- what is in force at a worker before any lane has ended
abbrev pub view_of : WorkerIs → Func → StateView
view_of w func = record { func = func; counts = w.counts; last = w.last; ended = 0 }

pub record HasProcessed (setup : SetupView) (who : WorkerOf) (place : ℕ)
    (w v : WorkerIs) : Type 0 where
  pub tuple : Tuple
  pub at : LaneInIs
  pub func : Func
  pub here : slice_get w.ins place ≡ Some at
  pub held : at.hand ≡ Holds (Carry tuple)
  pub func_is : func_in setup w.node w.in_force ≡ Some func
  pub journal : v.journal ≡ w.journal ++ Met at.number tuple ∷ []
  pub ins : v.ins ≡ laid_down place w.ins
  pub outs : EachPair (Gains (λ (out : LaneOutIs).
      items_at setup.job (puts setup who (view_of w func) (Met at.number tuple)) out.number))
      w.outs v.outs
  pub counts : v.counts ≡ (after setup who (view_of w func) (Met at.number tuple)).counts
  pub next : v.next < length w.ins
  pub rest : v ≡ record w {
    journal = v.journal;
    ins = v.ins;
    outs = v.outs;
    counts = v.counts;
    memory = v.memory;
    next = v.next;
  }

-- ---- the end

abbrev pub all_emptied : List LaneInIs → List LaneInIs
all_emptied ins = map (λ (a : LaneInIs). record a { hand = Empty }) ins

abbrev pub ended_entries : List LaneInIs → List Entry
ended_entries ins = map (λ (a : LaneInIs). Ended a.number) ins

pub record HasClosed (w v : WorkerIs) : Type 0 where
  pub journal : v.journal ≡ w.journal ++ ended_entries w.ins
  pub ins : v.ins ≡ all_emptied w.ins
  pub outs : EachPair (Gains (λ (out : LaneOutIs). Last ∷ [])) w.outs v.outs
  pub closed : v.closed ≡ true
  pub rest : v ≡ record w {
    journal = v.journal;
    ins = v.ins;
    outs = v.outs;
    closed = true;
    memory = v.memory;
  }
