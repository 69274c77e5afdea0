use Rattle.std.proofs.Common.{◌≡◌, drop}
use Rattle.flow_replay.proofs.AloneLemmas.{first_found}
use Rattle.flow_replay.proofs.row_alone.first_edge.Given as goal

abbrev pub invariant-loop-edge : goal.invariant-loop-edge
invariant-loop-edge l = first_found l.node l.port (drop l.edge-index l.edges)
    ≡ first_found l.node l.port l.edges
