-- A turn of a worker keeps what is true of its runner.
use Rattle.std.proofs.Common.{◌≡◌, map, subst}
use Rattle.flow_model.specs.SetupView.{SetupView}
use Rattle.flow_worker.specs.Endpoints.{LaneInIs, LaneOutIs, SameIn, SameOut}
use Rattle.flow_worker.specs.Turning.{HasCause, IsDone, IsTurn, SameEndpoints}
use Rattle.flow_worker.specs.Worker.{WorkerIs}
use Rattle.flow_worker.specs.declared.worker.Turn as turn_type
use Rattle.flow_worker.specs.declared.worker.Turn.TheVariants as turn
use Rattle.flow_worker.proofs.Pairs.{pairs_keep}
use Rattle.flow_runner.specs.Runner.{end_in, end_out, endpoints_of}

same_in : (a b : LaneInIs) → SameIn a b → end_in b ≡ end_in a
same_in a b s = λ i. record { lane = s.0 i; number = s.1 i; origin = s.2 i }

same_out : (a b : LaneOutIs) → SameOut a b → end_out b ≡ end_out a
same_out a b s = λ i. record { lane = s.0 i; number = s.1 i; origin = s.2 i }

pub same_ends : (w v : WorkerIs) → SameEndpoints w v → endpoints_of v ≡ endpoints_of w
same_ends w v s =
    let i : map end_in v.ins ≡ map end_in w.ins = pairs_keep SameIn end_in w.ins v.ins same_in s.ins in
    let o : map end_out v.outs ≡ map end_out w.outs = pairs_keep SameOut end_out w.outs v.outs same_out s.outs in
    λ k. record { ins = i k; outs = o k }

pub turned_done : (setup : SetupView) (result : turn_type.Turn) (w v : WorkerIs) → result ≡ turn.Done → IsTurn setup result w v → IsDone v
turned_done setup result w v e t =
    let P : turn_type.Turn → Type 0 = λ r. HasCause r w v in subst P e t.cause
