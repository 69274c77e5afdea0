use Rattle.std.proofs.Common.{◌≡◌, ◌<◌, ◌≤◌, ℕ, length, true}
use Rattle.std.specs.Prelude.{◌↔◌}
use Rattle.flow_dag.specs.Masks.{has}
use Rattle.flow_worker.specs.Endpoints.{Filled, all_taken}
use Rattle.flow_worker.proofs.HandMasks.{IsLeft}
use Rattle.flow_worker.proofs.lanes_in.LanesIn.fill_each.Given as goal

abbrev pub invariant-loop-place : goal.invariant-loop-place
invariant-loop-place g l = record {
  left : IsLeft Filled l.left l.fn.self l.self;
  within : (k : ℕ) → has l.left k ≡ true → k < length l.fn.self;
  grew : all_taken l.fn.self ≤ all_taken l.self;
  moved : l.moved ≡ true ↔ (all_taken l.fn.self < all_taken l.self);
}

abbrev pub decreases-loop-place : goal.decreases-loop-place
decreases-loop-place g l = l.left
