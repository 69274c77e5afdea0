-- What is in force at a worker, as code keeps it.
use Rattle.std.specs.Prelude.{◌≡◌, ◌++◌, ℕ, List, Option, Some, None, slice_get}
use Rattle.std.specs.FinMap.{empty}
use Rattle.jobs.specs.JobView.{JobView}
use Rattle.jobs.specs.declared.func.Func.{Func}
use Rattle.jobs.specs.declared.func.NodeDef.{NodeDef}
use Rattle.operators.specs.Meaning.{step}
use Rattle.operators.specs.declared.output.Output.{Output}
use Rattle.sink_journal.specs.declared.journal.Entry.{Entry}
use Rattle.sink_journal.specs.declared.journal.Entry.TheVariants.{Met, Turned, Ended}
use Rattle.tuple_trace.specs.declared.tuple.Tuple.{Tuple}
use Rattle.flow_model.specs.declared.in_force.InForce.{InForce}
use Rattle.flow_model.specs.declared.in_force.InForce.TheVariants.{Own, Changed}
use Rattle.flow_model.specs.declared.topology.WorkerAt.{WorkerAt}
use Rattle.flow_model.specs.declared.worker_state.WorkerState.{WorkerState}
use Rattle.flow_model.specs.InForce.{func_in}
use Rattle.flow_model.specs.SetupView.{SetupView, Worker}
use Rattle.flow_model.specs.Replay.{StateView, after, visit_at}
use Rattle.flow_model.specs.Topology.{worker_of}
use Rattle.flow_model.specs.Workers.{workers_in}

-- the state of a worker that has done nothing
abbrev pub first_state : WorkerState
first_state = record { func = Own; counts = empty; last = 0; ended = 0 }

abbrev pub found_or : Func → Option Func → Func
found_or own None = own
found_or own (Some func) = func

-- the function that stands at a place, or the worker's own if none does
abbrev pub func_at : SetupView → Worker → InForce → Func
func_at setup who Own = who.func
func_at setup who (Changed request place) =
    found_or who.func (func_in setup who.node (Changed request place))

-- the function is the one that stands at a place, at each worker of a node
abbrev pub IsInForce : SetupView → ℕ → InForce → Func → Type 0
IsInForce setup node at func =
    (who : Worker) (def : NodeDef) → slice_get setup.job.nodes node ≡ Some def →
    who.node ≡ node → who.func ≡ def.func → func ≡ func_at setup who at

-- what a state puts in force at a worker
abbrev pub state_view : SetupView → Worker → WorkerState → StateView
state_view setup who state = record {
  func = func_at setup who state.func;
  counts = state.counts;
  last = state.last;
  ended = state.ended;
}

-- what a worker makes of a tuple
abbrev pub made : SetupView → Worker → StateView → Tuple → List Output
made setup who view tuple =
    (step setup.job (visit_at who view) view.func view.counts tuple).1

-- the worker of a job that stands there
pub record IsWorkerAt (job : JobView) (at : WorkerAt) (who : Worker) : Type 0 where
  pub there : slice_get (workers_in job) who.number ≡ Some who
  pub at_is : at ≡ worker_of who

-- the state went on by an entry
abbrev pub IsAfter : SetupView → Worker → Entry → WorkerState → WorkerState → Type 0
IsAfter setup who entry old new =
    state_view setup who new ≡ after setup who (state_view setup who old) entry

-- the state went on by a tuple, on whatever lane it came
abbrev pub IsProcessed : SetupView → WorkerAt → Tuple → WorkerState → WorkerState → Type 0
IsProcessed setup at tuple old new =
    (who : Worker) → IsWorkerAt setup.job at who →
    (lane : ℕ) → IsAfter setup who (Met lane tuple) old new

-- the worker's outputs for a tuple came behind the earlier ones
abbrev pub AreMade : SetupView → WorkerAt → Tuple → WorkerState → List Output → List Output → Type 0
AreMade setup at tuple state old new =
    (who : Worker) → IsWorkerAt setup.job at who →
    new ≡ old ++ made setup who (state_view setup who state) tuple

-- the state went on by a turn at the workers of a node
abbrev pub IsTurned : SetupView → ℕ → ℕ → WorkerState → WorkerState → Type 0
IsTurned setup node request old new =
    (who : Worker) → who.node ≡ node → IsAfter setup who (Turned request) old new

-- the state went on by the end of a lane, at whatever worker
abbrev pub HasEndedLane : WorkerState → WorkerState → Type 0
HasEndedLane old new =
    (setup : SetupView) (who : Worker) (lane : ℕ) → IsAfter setup who (Ended lane) old new
