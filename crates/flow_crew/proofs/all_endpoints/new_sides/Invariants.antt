use Rattle.std.proofs.Common.{◌≡◌}
use Rattle.std.specs.Prelude.{replicate}
use Rattle.flow_crew.specs.Sides.{empty_side}
use Rattle.flow_crew.proofs.all_endpoints.new_sides.Given as goal

abbrev pub invariant-loop-worker : goal.invariant-loop-worker
invariant-loop-worker g l = l.sides.items ≡ replicate l._worker empty_side
