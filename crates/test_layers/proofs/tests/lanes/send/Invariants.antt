use Rattle.std.proofs.Common.{◌≡◌}
use Rattle.test_layers.proofs.tests.lanes.send.Given as goal

abbrev pub invariant-loop-request : goal.invariant-loop-request
invariant-loop-request g l = (g.T.Tx.state l.tx).lane ≡ (g.T.Tx.state l.fn.tx).lane
