use Rattle.test_layers.proofs.LaneLemmas.{take-lane}
use Rattle.test_layers.proofs.tests.lanes.take.Goals as goal

pub returns : goal.returns
returns g c = take-lane c.take.result (g.T.Rx.state c.args.rx.now) (g.T.Rx.state c.take.new.self) c.take.ensures.taken c.take.ensures.none
