use Rattle.std.proofs.Common.{take}
use Rattle.flow_model.specs.SetupWorker.{setup_here}
use Rattle.audit_restore.proofs.LaneLemmas.{AgreeOn}
use Rattle.audit_restore.proofs.lanes.check_lanes.Given as goal

abbrev pub invariant-loop-lane : goal.invariant-loop-lane
invariant-loop-lane l = AgreeOn (setup_here l.who) l.standing l.journal (take l.lane-index l.lane-items)
