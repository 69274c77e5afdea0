use Rattle.flow_engine.proofs.Moving.{in_order}
use Rattle.flow_engine.proofs.recorded.with_waits.Goals as goal

pub waiting_for-made-requires-clause-in_order : goal.waiting_for-made-requires-clause-in_order
waiting_for-made-requires-clause-in_order c = in_order 0 c.args.waits.now c.args.setup.judged.accepted c.requires.one_each c.requires.rising
