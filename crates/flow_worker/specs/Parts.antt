-- What a worker is made of, and what it hands back.
use Rattle.std.specs.Prelude.{◌≡◌, ℕ, List, map, Some, slice_get}
use Rattle.flow_dag.specs.declared.graph.Graph.{Graph}
use Rattle.jobs.specs.JobView.{JobView}
use Rattle.keyed_state.specs.Counts.{Counts}
use Rattle.lane_core.specs.Lane.{EndpointIs}
use Rattle.sink_journal.specs.declared.journal.Entry.{Entry}
use Rattle.flow_model.specs.Agreement.{IsGraphOf}
use Rattle.flow_model.specs.Begin.{Begin, view_at}
use Rattle.flow_model.specs.InForce.{func_in}
use Rattle.flow_model.specs.Lanes.{lanes_in, out_numbers}
use Rattle.flow_model.specs.NewEndpoint.{IsNewEndpoint}
use Rattle.flow_model.specs.SetupView.{SetupView}
use Rattle.flow_model.specs.Workers.{nth_worker}
use Rattle.flow_worker.specs.Pairs.{EachOne}
use Rattle.flow_worker.specs.Endpoints.{LaneInIs, LaneOutIs}
use Rattle.flow_worker.specs.declared.worker.Beginning.{Beginning}
use Rattle.flow_worker.specs.declared.worker.WorkerStart.{WorkerStart}

-- the receiving endpoint of a lane in, and the sending endpoint of a lane out
abbrev pub endpoint_in : LaneInIs → EndpointIs
endpoint_in a = record {
  lane = a.lane;
  number = a.number;
  origin = a.origin;
  items = a.taken;
  stalls = a.dry;
}

abbrev pub endpoint_out : LaneOutIs → EndpointIs
endpoint_out out = record {
  lane = out.lane;
  number = out.number;
  origin = out.origin;
  items = out.sent;
  stalls = out.full;
}

-- What a finished worker leaves: its number, its journal and its counts.
pub record WorkedIs : Type 0 where
  pub number : ℕ
  pub journal : List Entry
  pub state : Counts

-- the endpoints of a new worker, in the order of its lanes' numbers
pub record AreNewEndpoints (job : JobView) (worker : ℕ) (ins outs : List EndpointIs) : Type 0 where
  pub graph : Graph
  pub graph_is : IsGraphOf job graph
  pub ins_are : map (λ (end : EndpointIs). end.number) ins ≡ lanes_in job worker
  pub new_in : EachOne (IsNewEndpoint job graph) ins
  pub outs_are : map (λ (end : EndpointIs). end.number) outs ≡ out_numbers job worker
  pub new_out : EachOne (IsNewEndpoint job graph) outs

-- a beginning has this start of the worker with this number
pub record IsStartOf (begin : Begin) (number : ℕ) (start : WorkerStart) : Type 0 where
  pub turned_is : start.turned ≡ begin.turned
  pub counts_are : slice_get begin.states number ≡ Some start.counts

-- the state of the worker with this number where a beginning is
pub record IsStateAt (setup : SetupView) (begin : Begin) (number : ℕ) (at : Beginning) : Type 0 where
  pub begun_is : slice_get begin.states number ≡ Some at.state.counts
  pub turned_is : at.turned ≡ begin.turned
  pub func_is :
      func_in setup (nth_worker setup.job number).node at.state.func
      ≡ Some (view_at setup begin.turned (nth_worker setup.job number) at.state.counts).func
  pub last_is :
      at.state.last
      ≡ (view_at setup begin.turned (nth_worker setup.job number) at.state.counts).last
