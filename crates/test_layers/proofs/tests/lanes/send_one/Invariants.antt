use Rattle.std.proofs.Common.{◌≡◌}
use Rattle.test_layers.proofs.tests.lanes.send_one.Given as goal

abbrev pub invariant-loop : goal.invariant-loop
invariant-loop g l = ((g.T.Tx.state l.tx).lane ≡ (g.T.Tx.state l.fn.tx).lane) × (goal.iterator-loop g).can_next l.iterator' × (goal.iterator-loop g).is_finite l.iterator'
