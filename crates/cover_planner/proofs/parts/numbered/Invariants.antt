use Rattle.std.proofs.Common.{◌≡◌, get_or, length}
use Rattle.flow_dag.specs.Masks.{Has}
use Rattle.flow_dag.specs.Rows.{RowHas}
use Rattle.flow_dag.specs.Paths.{IsOrReaches}
use Rattle.cover_planner.proofs.NumberLemmas.{Numbers}
use Rattle.cover_planner.proofs.parts.numbered.Given as goal

abbrev pub invariant-loop-a : goal.invariant-loop-a
invariant-loop-a l = record {
  long : length l.part ≡ 64;
  numbers : Numbers (Has l.nodes) (IsOrReaches (RowHas l.joined)) (λ x. get_or l.part x 0) l.a l.next;
}
