use Rattle.lane_core.proofs.Steps.{unparted-IsLane}
use Rattle.lane_core.proofs.queue.QueueLanesLanes.make.Goals as goal

pub ruled-requires-clause-rule : goal.ruled-requires-clause-rule
ruled-requires-clause-rule g c = unparted-IsLane
