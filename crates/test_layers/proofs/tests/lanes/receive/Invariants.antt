use Rattle.std.proofs.Common.{◌≡◌}
use Rattle.test_layers.proofs.tests.lanes.receive.Given as goal

abbrev pub invariant-loop-request : goal.invariant-loop-request
invariant-loop-request g l = (g.T.Rx.state l.rx).lane ≡ (g.T.Rx.state l.fn.rx).lane
