use Rattle.std.proofs.Common.{◌≡◌}
use Rattle.test_layers.proofs.tests.lanes.receive_one.Given as goal

abbrev pub invariant-loop : goal.invariant-loop
invariant-loop g l = ((g.T.Rx.state l.rx).lane ≡ (g.T.Rx.state l.fn.rx).lane) × (goal.iterator-loop g).can_next l.iterator' × (goal.iterator-loop g).is_finite l.iterator'
