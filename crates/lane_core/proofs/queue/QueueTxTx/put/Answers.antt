use Rattle.std.proofs.Common.{rules}
use Rattle.lane_core.proofs.Steps.{LayLast-Learns, put-Pushes}
use Rattle.lane_core.proofs.queue.QueueTxTx.put.Goals as goal

pub push_as-requires-clause-rule : goal.push_as-requires-clause-rule
push_as-requires-clause-rule g c = (put-Pushes _ _ _ _ c.args.self.now.role (search rules) c.requires, LayLast-Learns _ _ c.args.self.now.role)
