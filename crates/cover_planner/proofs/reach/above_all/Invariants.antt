use Rattle.flow_dag.specs.Paths.{Reaches}
use Rattle.flow_dag.specs.Edges.{HasEdge}
use Rattle.cover_planner.proofs.GatherLemmas.{GathersBelow}
use Rattle.cover_planner.proofs.reach.above_all.Given as goal

abbrev pub invariant-loop-m : goal.invariant-loop-m
invariant-loop-m l = GathersBelow (λ x a. Reaches (HasEdge l.dag.edges) a x) l.set l.found l.m
