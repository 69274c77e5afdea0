use Rattle.std.proofs.Common.{take}
use Rattle.flow_model.specs.SetupWorker.{setup_here}
use Rattle.audit_journal.proofs.LaneLemmas.{AreMarked}
use Rattle.audit_journal.proofs.duty.has_markers.Given as goal

abbrev pub invariant-loop-lane : goal.invariant-loop-lane
invariant-loop-lane l = AreMarked (setup_here l.who) l.who.number l.request l.marks (take l.lane-index l.lane-items)
