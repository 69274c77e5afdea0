use Rattle.std.proofs.Common.{All, take}
use Rattle.flow_dag.specs.Edges.{IsInside}
use Rattle.jobs.proofs.ports.wrong_end.Given as goal

abbrev pub invariant-loop-i : goal.invariant-loop-i
invariant-loop-i l = All (IsInside l.count) (take l.i l.edges)
