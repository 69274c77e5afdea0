use Rattle.lane_core.proofs.Steps.{HasLeft-Learns, drain-Pops}
use Rattle.lane_core.proofs.queue.drain.drain.Goals as goal

pub pop_as-requires-clause-rule : goal.pop_as-requires-clause-rule
pop_as-requires-clause-rule g c = (drain-Pops _ _ c.loop.invariant.0.2, HasLeft-Learns _ _ c.loop.invariant.0.1 c.loop.invariant.0.2)
