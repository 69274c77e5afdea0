use Rattle.std.proofs.Common.{All, take}
use Rattle.flow_dag.specs.Edges.{IsInside}
use Rattle.flow_dag.proofs.children.check_ends.Given as goal

abbrev pub invariant-loop-i : goal.invariant-loop-i
invariant-loop-i l = All (IsInside l.n) (take l.i l.edges)
