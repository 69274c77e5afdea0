-- What contracts see of a runner, and what is true of each.
use Rattle.std.specs.Prelude.{◌≡◌, ℕ, Bool, true, List, map}
use Rattle.lane_core.specs.Lane.{EndIs}
use Rattle.flow_model.specs.Begin.{Begin}
use Rattle.flow_model.specs.SetupView.{SetupView}
use Rattle.flow_worker.specs.Endpoints.{LaneInIs, LaneOutIs}
use Rattle.flow_worker.specs.Turning.{IsDone}
use Rattle.flow_worker.specs.Worker.{IsWorker, WorkerIs}

-- what no turn changes of the endpoint of a lane in, or of a lane out
abbrev pub end_in : LaneInIs → EndIs
end_in a = record { lane = a.lane; number = a.number; origin = a.origin }

abbrev pub end_out : LaneOutIs → EndIs
end_out out = record { lane = out.lane; number = out.number; origin = out.origin }

-- The endpoints of a worker, in the order of its lanes.
pub record EndpointsIs : Type 0 where
  pub ins : List EndIs
  pub outs : List EndIs

abbrev pub endpoints_of : WorkerIs → EndpointsIs
endpoints_of w = record { ins = map end_in w.ins; outs = map end_out w.outs }

-- A runner: the number and the endpoints of its worker, and whether that is done.
pub record RunnerIs : Type 0 where
  pub number : ℕ
  pub endpoints : EndpointsIs
  pub is_done : Bool

-- Each runner's worker has the law of a worker from the beginning on. The runner holds the setup,
-- and knows its worker's number, and when it is done.
pub record IsRunner (setup : SetupView) (begin : Begin) (held : SetupView) (number : ℕ)
    (w : WorkerIs)
    (done : Bool) : Type 0 where
  pub setup_is : held ≡ setup
  pub number_is : number ≡ w.number
  pub law : IsWorker held begin w
  pub done_is : done ≡ true → IsDone w
