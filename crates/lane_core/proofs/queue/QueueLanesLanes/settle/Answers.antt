use Rattle.lane_core.proofs.Steps.{joined-Merges}
use Rattle.lane_core.proofs.queue.QueueLanesLanes.settle.Goals as goal

pub absorb-requires-clause-rule : goal.absorb-requires-clause-rule
absorb-requires-clause-rule g c = joined-Merges _ _ _ _ c.args.rx.role c.args.tx.role
