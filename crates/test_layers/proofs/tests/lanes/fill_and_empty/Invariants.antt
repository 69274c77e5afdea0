use Rattle.std.proofs.Common.{◌≡◌}
use Rattle.test_layers.proofs.tests.lanes.fill_and_empty.Given as goal

abbrev pub invariant-loop-request : goal.invariant-loop-request
invariant-loop-request g l = (g.T.Tx.state l.tx).lane ≡ (g.T.Tx.state l.fn.tx).lane

abbrev pub invariant-loop-request-2 : goal.invariant-loop-request-2
invariant-loop-request-2 g l = ((g.T.Tx.state l.tx).lane ≡ (g.T.Tx.state l.fn.tx).lane) × ((g.U.Rx.state l.rx).lane ≡ (g.U.Rx.state l.fn.rx).lane)
