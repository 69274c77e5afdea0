use Rattle.lane_core.proofs.Steps.{take-Pops}
use Rattle.lane_core.proofs.queue.QueueRxRx.take.Goals as goal

pub pop_as-requires-clause-rule : goal.pop_as-requires-clause-rule
pop_as-requires-clause-rule g c = (take-Pops _ _ c.args.self.now.role, λ items views h at. tt)
