use Rattle.std.proofs.Common.{◌≡◌, ◌<◌, ◌≤◌, true}
use Rattle.std.specs.Prelude.{◌↔◌}
use Rattle.flow_worker.specs.Endpoints.{Flushed, IsSteadyOut, sent_in_all}
use Rattle.flow_worker.specs.Pairs.{EachOne}
use Rattle.flow_worker.proofs.HandMasks.{IsLeft}
use Rattle.flow_worker.proofs.lanes_out.LanesOut.flush_marked.Given as goal

abbrev pub invariant-loop-place : goal.invariant-loop-place
invariant-loop-place g l = record {
  left : IsLeft Flushed l.left l.fn.self l.self;
  steady : EachOne IsSteadyOut l.self;
  grew : sent_in_all l.fn.self ≤ sent_in_all l.self;
  moved : l.moved ≡ true ↔ (sent_in_all l.fn.self < sent_in_all l.self);
}

abbrev pub decreases-loop-place : goal.decreases-loop-place
decreases-loop-place g l = l.left
