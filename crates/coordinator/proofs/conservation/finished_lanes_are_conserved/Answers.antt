use Rattle.coordinator.proofs.Conserving.{lane_conserved}
use Rattle.coordinator.proofs.conservation.finished_lanes_are_conserved.Goals as goal

pub returns : goal.returns
returns c = λ begin rows ran n lane journal sent taken left finished there journal_is put took settled. lane_conserved begin rows ran n lane finished there journal sent taken left journal_is put took settled
