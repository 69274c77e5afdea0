-- Where a row enters the flow.
use Rattle.std.proofs.Common.{◌≡◌, ℕ, List, None, subst}
use Rattle.tuple_trace.specs.declared.row.Row.{Row}
use Rattle.tuple_trace.specs.declared.tuple.Tuple.{Tuple}
use Rattle.flow_model.specs.Lanes.{lane_of}
use Rattle.flow_model.specs.SetupView.{SetupView}
use Rattle.flow_replay.specs.declared.worker_run.WorkerRun.{WorkerRun}
use Rattle.flow_replay.specs.inner.Delivery.{IsDelivered, IsFed}
use Rattle.flow_replay.proofs.DeliveryLemmas.{found_lane}
use Rattle.flow_model.specs.Topology.{IsNumberOf}

pub row_fed : (setup : SetupView) (rank : ℕ → ℕ) (row : Row) (issued n : ℕ) (copy : Tuple) (old new :
    List WorkerRun) → IsNumberOf setup.job (lane_of setup.job None row.source 0 row.tuple) n →
    copy ≡ row.tuple
    → IsDelivered setup rank n (record copy { issued = issued }) old new →
    IsFed setup rank row issued old new
row_fed setup rank row issued n copy old new found same delivered =
    let (there, along) = found_lane setup.job (lane_of setup.job None row.source 0 row.tuple) n
    found in
    record {
      n = n;
      there = there;
      along = along;
      delivered = subst (λ (t : Tuple). IsDelivered setup rank n (record t { issued = issued }) old
          new) same delivered;
    }
