use Rattle.std.proofs.Common.{map}
use Rattle.flow_model.specs.Setup.{setup_view}
use Rattle.flow_crew.proofs.Settling.{IsSettling}
use Rattle.flow_crew.proofs.settle.settle_all.Given as goal

-- the lanes from this number on are settled
abbrev pub invariant-loop-number : goal.invariant-loop-number
invariant-loop-number g l =
    IsSettling (setup_view l.setup).job l.fn.sides.items
    (map g.L.Tx.Tx.state l.fn.feeder.items)
    l.number l.sides.items
    (map g.L.Tx.Tx.state l.feeder.items)

abbrev pub decreases-loop-number : goal.decreases-loop-number
decreases-loop-number g l = l.number
