use Rattle.std.proofs.Common.{◌≡◌, ◌<◌, ◌≤◌, true}
use Rattle.std.specs.Prelude.{◌↔◌}
use Rattle.flow_worker.specs.Pairs.{FirstPairs}
use Rattle.flow_worker.specs.Endpoints.{Flushed, sent_in_all}
use Rattle.flow_worker.proofs.lane_out.flush_all.Given as goal

abbrev pub invariant-loop-out : goal.invariant-loop-out
invariant-loop-out g l = record {
  pairs : FirstPairs Flushed l.out-index l.initial.out-items l.out-items;
  grew : sent_in_all l.initial.out-items ≤ sent_in_all l.out-items;
  moved : l.moved ≡ true ↔ (sent_in_all l.initial.out-items < sent_in_all l.out-items);
}
