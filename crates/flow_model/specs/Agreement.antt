-- What the tuples that a worker meets tell of its turns.
use Rattle.std.specs.Prelude.{◌≡◌, ◌↔◌, ⊤, ℕ, List, AllPairs, IfSome, Some, slice_get}
use Rattle.flow_dag.specs.Edges.{HasEdge}
use Rattle.flow_dag.specs.Graph.{IsEdge}
use Rattle.flow_dag.specs.declared.edge.Edge.{Edge}
use Rattle.flow_dag.specs.declared.graph.Graph.{Graph}
use Rattle.jobs.specs.JobView.{JobView}
use Rattle.keyed_state.specs.Counts.{Counts}
use Rattle.lane_core.specs.Steady.{IsNewAt, IsOldAt, IsSteady}
use Rattle.sink_journal.specs.declared.journal.Entry.{Entry}
use Rattle.sink_journal.specs.declared.journal.Entry.TheVariants as entry
use Rattle.flow_model.specs.declared.topology.Lane.{Lane}
use Rattle.flow_model.specs.SetupView.{SetupView, Worker}
use Rattle.flow_model.specs.Begin.{Begin, view_at}
use Rattle.flow_model.specs.Covers.{plan_of}
use Rattle.flow_model.specs.Lanes.{lanes}
use Rattle.flow_model.specs.Replay.{items_sent, shown}
use Rattle.flow_model.specs.Run.{IsLawfulFrom}
use Rattle.flow_model.specs.Workers.{workers_in}

-- an entry agrees with a later one: a tuple that is met before a turn is old at the nodes that the
-- request covers, and one that is met after it is new
abbrev pub AgreesWith : SetupView → Entry → Entry → Type 0
AgreesWith setup (entry.Met lane tuple) (entry.Turned request) =
    IfSome (plan_of setup request) (λ plan. IsOldAt request plan.nodes tuple)
AgreesWith setup (entry.Turned request) (entry.Met lane tuple) =
    IfSome (plan_of setup request) (λ plan. IsNewAt request plan.nodes tuple)
AgreesWith setup earlier later = ⊤

-- at each request that was turned, a tuple met before the turn is old at every covered node that it
-- visited, and one met after it is new
abbrev pub Agreement : SetupView → List Entry → Type 0
Agreement setup journal = AllPairs (AgreesWith setup) journal

-- the graph has the edges of the job
abbrev pub IsGraphOf : JobView → Graph → Type 0
IsGraphOf job graph = (a b : ℕ) → IsEdge graph a b ↔ HasEdge job.edges a b

-- what the lanes into a worker have delivered is steady on each
abbrev pub HasSteadyLanes : SetupView → Graph → Worker → List Entry → Type 0
HasSteadyLanes setup graph who journal =
    (n : ℕ) (lane : Lane) (edge : Edge) → slice_get (lanes setup.job) n ≡ Some lane
    → lane.receiver ≡ who.number →
    slice_get setup.job.edges lane.edge ≡ Some edge
    → IsSteady (record { graph = graph; from = edge.from }) (shown setup n journal)

-- a worker of the setup whose journal is lawful so far, and whose lanes have delivered steady lists
pub record WorksSteadily (setup : SetupView) (graph : Graph) (begin : Begin) (who : Worker)
    (journal : List Entry) : Type 0 where
  pub works : slice_get (workers_in setup.job) who.number ≡ Some who
  pub lawful : IsLawfulFrom setup begin who journal
  pub steady : HasSteadyLanes setup graph who journal

-- what the replay of a journal sends is steady on every lane
abbrev pub SendsSteadily : SetupView → Graph → Begin → Worker → Counts → List Entry → Type 0
SendsSteadily setup graph begin who counts journal =
    (lane : Lane) → IsSteady (record { graph = graph; from = who.node })
    (items_sent setup who (view_at setup begin.turned who counts) lane journal)
