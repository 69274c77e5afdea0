-- The endpoints of the workers and of the feeder.
use Rattle.std.specs.Prelude.{◌≡◌, ℕ, Bool, List, [], ◌++◌, length, map, Option, Some, None}
use Rattle.std.specs.Prelude.{slice_get}
use Rattle.jobs.specs.JobView.{JobView}
use Rattle.lane_core.specs.Lane.{EndpointIs, LaneId}
use Rattle.tuple_trace.specs.declared.tuple.Item.{Item}
use Rattle.flow_model.specs.Lanes.{is_same_sender, lanes, lanes_in, lanes_that, out_numbers}
use Rattle.flow_model.specs.declared.topology.Lane.{Lane}
use Rattle.flow_model.specs.Workers.{workers_in}
use Rattle.flow_worker.specs.Endpoints.{LaneInIs, LaneOutIs}
use Rattle.flow_worker.specs.Pairs.{EachOne}
use Rattle.flow_worker.specs.Parts.{endpoint_in, endpoint_out}
use Rattle.flow_worker.specs.Worker.{WorkerIs}

-- A worker's endpoints: of its lanes in, and of its lanes out.
pub record SideIs : Type 0 where
  pub ins : List EndpointIs
  pub outs : List EndpointIs

abbrev pub empty_side : SideIs
empty_side = record { ins = []; outs = [] }

-- the endpoints of a worker
abbrev pub worker_side : WorkerIs → SideIs
worker_side worker =
    record { ins = map endpoint_in worker.ins; outs = map endpoint_out worker.outs }

-- which lanes the endpoints of a worker belong to, with their numbers
abbrev pub lane_ids : WorkerIs → List (LaneId × ℕ) × List (LaneId × ℕ)
lane_ids worker = (
  map (λ (a : LaneInIs). (a.lane, a.number)) worker.ins,
  map (λ (out : LaneOutIs). (out.lane, out.number)) worker.outs,
)

abbrev pub numbers_of : List EndpointIs → List ℕ
numbers_of ends = map (λ (end : EndpointIs). end.number) ends

-- the feeder sends on the lane
abbrev pub feeder_sends : Lane → Bool
feeder_sends lane = is_same_sender None lane.sender

-- each worker and the feeder have the endpoints of all their lanes, in the order of their numbers
pub record HaveAllLanes (job : JobView) (sides : List SideIs) (fed : List EndpointIs)
    : Type 0 where
  pub many : length sides ≡ length (workers_in job)
  pub ins :
      (w : ℕ) (side : SideIs) → slice_get sides w ≡ Some side →
      numbers_of side.ins ≡ lanes_in job w
  pub outs :
      (w : ℕ) (side : SideIs) → slice_get sides w ≡ Some side →
      numbers_of side.outs ≡ out_numbers job w
  pub feeder : numbers_of fed ≡ lanes_that feeder_sends job

-- each lane out of the workers holds this many items at most
abbrev pub HoldAtMost : ℕ → List SideIs → Type 0
HoldAtMost cap sides =
    (w : ℕ) (side : SideIs) → slice_get sides w ≡ Some side →
    EachOne (λ (end : EndpointIs). end.lane.capacity ≡ cap) side.outs

-- the endpoints of the worker with this number, of no worker if there is none
abbrev pub side_ins : Option SideIs → List EndpointIs
side_ins None = []
side_ins (Some side) = side.ins

abbrev pub side_outs : Option SideIs → List EndpointIs
side_outs None = []
side_outs (Some side) = side.outs

-- the receiving endpoints of a worker
abbrev pub ins_at : ℕ → List SideIs → List EndpointIs
ins_at worker sides = side_ins (slice_get sides worker)

-- the sending endpoints of a worker, or of the feeder
abbrev pub outs_at : Option ℕ → List SideIs → List EndpointIs → List EndpointIs
outs_at None sides fed = fed
outs_at (Some worker) sides fed = side_outs (slice_get sides worker)

-- the endpoint has some place in the list
abbrev pub IsAmong : List EndpointIs → EndpointIs → Type 0
IsAmong ends end = (place : ℕ) × (slice_get ends place ≡ Some end)

-- a sending and a receiving endpoint with one number are the two endpoints of one lane
abbrev pub AreMatched : List SideIs → List EndpointIs → Type 0
AreMatched sides fed =
    (sender : Option ℕ) (receiver : ℕ) (tx rx : EndpointIs) →
    IsAmong (outs_at sender sides fed) tx → IsAmong (ins_at receiver sides) rx →
    tx.number ≡ rx.number → tx.lane ≡ rx.lane

-- the lane is settled: what its sender sent is what its receiver took, followed by what was left
pub record IsSettled (sides : List SideIs) (fed : List EndpointIs) (n : ℕ) (lane : Lane)
    : Type 0 where
  pub tx : EndpointIs
  pub rx : EndpointIs
  pub left : List Item
  pub sender : IsAmong (outs_at lane.sender sides fed) tx
  pub receiver : IsAmong (ins_at lane.receiver sides) rx
  pub tx_number : tx.number ≡ n
  pub rx_number : rx.number ≡ n
  pub settled : tx.items ≡ rx.items ++ left

-- each lane of the job is settled
abbrev pub AreSettled : JobView → List SideIs → List EndpointIs → Type 0
AreSettled job sides fed =
    (n : ℕ) (lane : Lane) → slice_get (lanes job) n ≡ Some lane → IsSettled sides fed n lane
