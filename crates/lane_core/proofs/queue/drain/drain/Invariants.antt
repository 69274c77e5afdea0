use Rattle.std.proofs.Common.{◌≡◌, ◌++◌, true}
use Rattle.crossbeam_queue.specs.Passes.{view, IsPassOf}
use Rattle.lane_core.proofs.queue.drain.drain.Given as goal

abbrev pub invariant-loop : goal.invariant-loop
invariant-loop g l =
    (IsPassOf l.line l.pass × ((view l.pass).puts ≡ true) × ((view l.pass).takes ≡ true) × ((view l.pass).sent ≡ (view l.fn.pass).sent) × ((view l.pass).taken ≡ (view l.fn.pass).taken ++ l.left.items))
    × (goal.iterator-loop g).can_next l.iterator' × (goal.iterator-loop g).is_finite l.iterator'
