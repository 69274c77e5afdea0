-- What one row makes by itself, and which functions it met.
use Rattle.std.specs.Prelude.{ℕ, zero, suc, List, [], ◌∷◌, length, Option, Some}
use Rattle.std.specs.Prelude.{None, slice_get, if◌then◌else◌}
use Rattle.std.specs.FinMap.{empty}
use Rattle.std.specs.List.{enumerate_from, flat_map}
use Rattle.flow_dag.specs.declared.edge.Edge.{Edge}
use Rattle.jobs.specs.declared.func.Func.{Func}
use Rattle.jobs.specs.declared.func.NodeDef.{NodeDef}
use Rattle.jobs.specs.JobView.{JobView}
use Rattle.jobs.specs.Nodes.{is_sink}
use Rattle.operators.specs.Meaning.{step}
use Rattle.operators.specs.declared.output.Output.{Output}
use Rattle.tuple_trace.specs.declared.row.Row.{Row}
use Rattle.tuple_trace.specs.declared.tuple.Tuple.{Tuple}
use Rattle.tuple_trace.specs.declared.tuple.Visit.{Visit}
use Rattle.flow_model.specs.declared.landing.Landing.{Landing}
use Rattle.flow_model.specs.Lanes.{first_on}
use Rattle.flow_model.specs.Requests.{change_by, func_with}
use Rattle.flow_model.specs.Run.{Ran}
use Rattle.flow_model.specs.Whole.{is_new}

-- what comes to a sink of a tuple
abbrev pub landing : ℕ → Tuple → Landing
landing node tuple = record { sink = node; row = tuple.row; fields = tuple.fields }

-- a visit that tells nothing of workers or requests
abbrev pub bare_visit : ℕ → Visit
bare_visit node = record { node = node; worker = 0; last = 0 }

-- what becomes of what leaves along an edge, and of what leaves on a port without one
abbrev pub onward : (ℕ → Tuple → List Landing) → Option (ℕ × Edge) → Tuple → List Landing
onward lands None tuple = []
onward lands (Some edge) tuple = lands edge.1.to tuple

-- what a tuple at a node with this function makes at the sinks, where `lands` tells it of the nodes
-- behind
abbrev pub lands_by : JobView → (ℕ → Tuple → List Landing) → ℕ → Option Func → Tuple → List Landing
lands_by job lands node None tuple = []
lands_by job lands node (Some func) tuple =
    if is_sink func then landing node tuple ∷ []
    else flat_map (λ (output : Output). onward lands
    (first_on node output.port (enumerate_from 0 job.edges)) output.tuple) (
    step job (bare_visit node) func empty tuple).1

-- what a tuple at a node makes at the sinks, over at most `nodes` nodes, each with the function of
-- the table
abbrev pub lands : JobView → (ℕ → Option Func) → ℕ → ℕ → Tuple → List Landing
lands job table zero node tuple = []
lands job table (suc nodes) node tuple = lands_by job (lands job table nodes) node
    (table node) tuple

-- one row sent through the job by itself, each node having the one function that the table gives
-- it; no path has more nodes than the job
abbrev pub alone : JobView → (ℕ → Option Func) → Row → List Landing
alone job table row = onward (lands job table (length job.nodes))
    (first_on row.source 0 (enumerate_from 0 job.edges)) row.tuple

-- the function of a node, given at first, after those of the first r requests at which the row is
-- new
abbrev pub func_for : Ran → ℕ → ℕ → Func → ℕ → Func
func_for ran row node func zero = func
func_for ran row node func (suc r) =
    if is_new ran (suc r) row then func_with (change_by ran.setup (suc r) node)
    (func_for ran row node func r) else func_for ran row node func r

-- the function of a node after all requests at which the row is new; none without a node
abbrev pub func_for_node : Ran → ℕ → ℕ → Option NodeDef → Option Func
func_for_node ran row node None = None
func_for_node ran row node (Some def) = Some (func_for ran row node def.func
    (length ran.setup.requests))

-- the functions that a row met: that of the latest request that changes the node and at which the
-- row is new, and else the job's
abbrev pub table : Ran → ℕ → ℕ → Option Func
table ran row node = func_for_node ran row node (slice_get ran.setup.job.nodes node)
