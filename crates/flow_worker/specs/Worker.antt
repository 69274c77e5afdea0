-- What contracts see of a worker, and its law.
use Rattle.std.specs.Prelude.{◌≡◌, ℕ, ◌<◌, ◌≤◌, IfSome, List, [], ◌++◌, Bool, true, false, length}
use Rattle.std.specs.Prelude.{map, Option, Some, slice_get}
use Rattle.control_box.specs.Endpoints.{OwnerIs}
use Rattle.flow_dag.specs.declared.edge.Edge.{Edge}
use Rattle.flow_dag.specs.declared.graph.Graph.{Graph}
use Rattle.jobs.specs.JobView.{JobView}
use Rattle.keyed_state.specs.Counts.{Counts}
use Rattle.marker_align.specs.declared.decision.Due.{Due}
use Rattle.marker_align.specs.declared.held.Hand.{Hand}
use Rattle.marker_align.specs.declared.held.Hand.TheVariants.{Empty}
use Rattle.sink_journal.specs.declared.journal.Entry.{Entry}
use Rattle.flow_model.specs.Agreement.{IsGraphOf}
use Rattle.flow_model.specs.Begin.{Begin, view_at}
use Rattle.flow_model.specs.Lanes.{lanes, lanes_in, out_numbers}
use Rattle.flow_model.specs.Law.{Progress, initial, progress_after}
use Rattle.flow_model.specs.declared.topology.Lane.{Lane}
use Rattle.flow_model.specs.SetupView.{SetupView, Worker}
use Rattle.flow_model.specs.Points.{turned}
use Rattle.flow_model.specs.Replay.{StateView, after_all, items_sent, shown}
use Rattle.flow_model.specs.Run.{IsFinishedFrom, IsLawfulFrom}
use Rattle.flow_model.specs.Duties.{duties}
use Rattle.flow_model.specs.Workers.{workers_in}
use Rattle.flow_model.specs.declared.in_force.InForce.{InForce}
use Rattle.flow_worker.specs.Pairs.{EachOne}
use Rattle.flow_worker.specs.Endpoints.{LaneInIs, IsSteadyIn, IsSteadyOut, LaneOutIs, in_hand}
use Rattle.flow_worker.specs.Endpoints.{planned}
use Rattle.flow_model.specs.Dues.{AreDues, IsDueOf}
use Rattle.flow_model.specs.InForce.{func_in}
use Rattle.marker_align.specs.declared.limits.TheConstants.{MAX_LANES_IN}

-- A worker: its number, its node and its place there; its journal, and the number of entries for
-- which it has memory; the function in force, the counts, the latest request turned, and the next
-- due; its lanes in and out; its end of the box; whether it has closed; the place at which its
-- search for a tuple begins; and the memory for `finish`.
pub record WorkerIs : Type 0 where
  pub number : ℕ
  pub node : ℕ
  pub place : ℕ
  pub journal : List Entry
  pub memory : ℕ
  pub in_force : InForce
  pub counts : Counts
  pub last : ℕ
  pub due : Option Due
  pub ins : List LaneInIs
  pub outs : List LaneOutIs
  pub owner : OwnerIs
  pub closed : Bool
  pub next : ℕ
  pub spare_in : ℕ
  pub spare_out : ℕ

-- what is in the hands, by their places
abbrev pub hands : WorkerIs → List Hand
hands w = map (λ (a : LaneInIs). a.hand) w.ins

-- the numbers of some lanes in, and the edges of them
abbrev pub lane_numbers_in : List LaneInIs → List ℕ
lane_numbers_in ins = map (λ (a : LaneInIs). a.number) ins

abbrev pub edges_of : List LaneInIs → List ℕ
edges_of ins = map (λ (a : LaneInIs). a.edge) ins

abbrev pub lane_numbers_out : List LaneOutIs → List ℕ
lane_numbers_out outs = map (λ (out : LaneOutIs). out.number) outs

-- a worker of the node, out of which lead the lanes with these numbers
pub record IsSenderAt (job : JobView) (node : ℕ) (who : Worker) (numbers : List ℕ) : Type 0 where
  pub there : slice_get (workers_in job) who.number ≡ Some who
  pub node_is : who.node ≡ node
  pub numbers_are : numbers ≡ out_numbers job who.number

-- the lane with the number is on the edge
pub record IsOnLane (job : JobView) (number edge : ℕ) : Type 0 where
  pub lane : Lane
  pub numbered : slice_get (lanes job) number ≡ Some lane
  pub edge_is : edge ≡ lane.edge

-- the endpoint is that of a lane of the setup
pub record IsEndpointIn (setup : SetupView) (graph : Graph) (a : LaneInIs) : Type 0 where
  pub lane : Lane
  pub edge : Edge
  pub numbered : slice_get (lanes setup.job) a.number ≡ Some lane
  pub edge_is : a.edge ≡ lane.edge
  pub edge_there : slice_get setup.job.edges lane.edge ≡ Some edge
  pub origin_is : a.origin ≡ record { graph = graph; from = edge.from }

pub record IsEndpointOut (setup : SetupView) (graph : Graph) (node : ℕ) (out : LaneOutIs)
    : Type 0 where
  pub lane : Lane
  pub numbered : slice_get (lanes setup.job) out.number ≡ Some lane
  pub edge_is : out.edge ≡ lane.edge
  pub origin_is : out.origin ≡ record { graph = graph; from = node }

-- the worker of a job with a number stands there
pub record IsAtPlace (job : JobView) (who : Worker) (number node place : ℕ) : Type 0 where
  pub who_is : slice_get (workers_in job) number ≡ Some who
  pub node_is : node ≡ who.node
  pub place_is : place ≡ who.place

-- the lanes into the worker with a number, in the order of their numbers; the search for a tuple
-- begins at one of them, and `finish` has memory for all
pub record AreLanesIn (setup : SetupView) (graph : Graph) (number next spare : ℕ)
    (ins : List LaneInIs) : Type 0 where
  pub are : lane_numbers_in ins ≡ lanes_in setup.job number
  pub ends : EachOne (IsEndpointIn setup graph) ins
  pub some : next < length ins
  pub few : length ins ≤ MAX_LANES_IN
  pub room : length ins ≤ spare

-- the lanes out of it, in the order of their numbers; `finish` has memory for all
pub record AreLanesOut (setup : SetupView) (graph : Graph) (node number spare : ℕ)
    (outs : List LaneOutIs) : Type 0 where
  pub are : lane_numbers_out outs ≡ out_numbers setup.job number
  pub ends : EachOne (IsEndpointOut setup graph node) outs
  pub room : length outs ≤ spare

-- what the worker keeps of its setup: its node and place, and its lanes
pub record IsPlaced (setup : SetupView) (who : Worker) (w : WorkerIs) : Type 0 where
  pub stands : IsAtPlace setup.job who w.number w.node w.place
  pub graph : Graph
  pub graph_is : IsGraphOf setup.job graph
  pub ins : AreLanesIn setup graph w.number w.next w.spare_in w.ins
  pub outs : AreLanesOut setup graph w.node w.number w.spare_out w.outs

-- what is in force after a journal, and how far it has come
abbrev pub view_now : SetupView → Begin → Worker → Counts → List Entry → StateView
view_now setup begin who counts journal =
    after_all setup who (view_at setup begin.turned who counts) journal

abbrev pub progress_now : SetupView → Begin → Worker → List Entry → Progress
progress_now setup begin who journal =
    progress_after (initial (duties setup begin.turned who)) journal

-- what was taken is what the journal shows followed by what is in hand
abbrev pub ShowsTaken : SetupView → List Entry → LaneInIs → Type 0
ShowsTaken setup journal a = a.taken ≡ shown setup a.number journal ++ in_hand a.hand

-- what was and will be sent is what the replay sends
abbrev pub Sends : SetupView → Begin → Worker → Counts → List Entry → LaneOutIs → Type 0
Sends setup begin who counts journal out =
    (lane : Lane) → slice_get (lanes setup.job) out.number ≡ Some lane →
    planned out ≡ items_sent setup who (view_at setup begin.turned who counts) lane journal

-- function, counts and latest request turned are those of a view
pub record HasView (setup : SetupView) (view : StateView) (node : ℕ) (in_force : InForce)
    (counts : Counts) (last : ℕ) : Type 0 where
  pub func_is : func_in setup node in_force ≡ Some view.func
  pub counts_is : counts ≡ view.counts
  pub last_is : last ≡ view.last

-- what was taken from each lane is what the journal shows followed by what is in hand, and is
-- steady
pub record HasTakenIn (setup : SetupView) (journal : List Entry) (ins : List LaneInIs)
    : Type 0 where
  pub takes : EachOne (ShowsTaken setup journal) ins
  pub steady : EachOne IsSteadyIn ins

-- what was sent on each lane and what waits is what the replay sends, and is steady
pub record HasSentOut (setup : SetupView) (begin : Begin) (who : Worker) (counts : Counts)
    (journal : List Entry) (outs : List LaneOutIs) : Type 0 where
  pub sends : EachOne (Sends setup begin who counts journal) outs
  pub steady : EachOne IsSteadyOut outs

-- the next due is the first of the dues that are left; its owner has not acknowledged it
pub record KnowsDue (setup : SetupView) (node : ℕ) (edges dues : List ℕ) (acknowledged : ℕ)
    (due : Option Due) : Type 0 where
  pub dues_are : AreDues setup node dues due
  pub due_is : IfSome due (IsDueOf setup node edges)
  pub few_turned : IfSome due (λ (due : Due). acknowledged < due.request)

-- before it has closed no lane has ended; then the journal is finished, and the hands are empty
pub record IsOpenOrFinished (setup : SetupView) (begin : Begin) (who : Worker)
    (journal : List Entry) (closed : Bool) (ins : List LaneInIs) : Type 0 where
  pub unended : closed ≡ false → (progress_now setup begin who journal).ended ≡ []
  pub finished : closed ≡ true → IsFinishedFrom setup begin who journal
  pub put_down : closed ≡ true → EachOne (λ (a : LaneInIs). a.hand ≡ Empty) ins

-- The law of a worker of a setup, from a beginning on: the journal is lawful so far; the worker has
-- the view of its replay; and the owner has acknowledged as many turns as the journal has.
pub record IsWorker (setup : SetupView) (begin : Begin) (w : WorkerIs) : Type 0 where
  pub who : Worker
  pub placed : IsPlaced setup who w
  pub begun : Counts
  pub begun_is : slice_get begin.states w.number ≡ Some begun
  pub lawful : IsLawfulFrom setup begin who w.journal
  pub view :
      HasView setup (view_now setup begin who begun w.journal) w.node w.in_force w.counts w.last
  pub taken : HasTakenIn setup w.journal w.ins
  pub sent : HasSentOut setup begin who begun w.journal w.outs
  pub turned_is : w.owner.turned ≡ length (turned w.journal)
  pub due :
      KnowsDue setup w.node (edges_of w.ins) (progress_now setup begin who w.journal).dues
      w.owner.turned w.due
  pub closing : IsOpenOrFinished setup begin who w.journal w.closed w.ins
