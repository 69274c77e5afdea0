use Rattle.std.proofs.Common.{◌≡◌, ℕ, [], Some, slice_get, length}
use Rattle.control_box.specs.Endpoints.{PosterIs}
use Rattle.test_actors.proofs.tests.feeds.make_boxes.Given as goal

-- as many boxes as workers so far, none of them used
abbrev pub invariant-loop-worker : goal.invariant-loop-worker
invariant-loop-worker l = record {
  many : length l.posters.items ≡ l._worker;
  unused : (w : ℕ) (p : PosterIs) → slice_get l.posters.items w ≡ Some p → (p.posted ≡ 0) × (p.loads ≡ []);
}
