use Rattle.test_layers.proofs.LaneLemmas.{put-lane}
use Rattle.test_layers.proofs.MarkLemmas.{MayFollow-no_cover}
use Rattle.test_layers.proofs.tests.lanes.put.Goals as goal

pub put-requires : goal.put-requires
put-requires g c = MayFollow-no_cover (g.T.Tx.state c.args.tx.now).origin _ _

pub returns : goal.returns
returns g c = put-lane c.put.result _ (g.T.Tx.state c.args.tx.now) (g.T.Tx.state c.put.new.self) c.put.ensures.put c.put.ensures.refused
