use Rattle.std.specs.Prelude.{ℕ, ◌<◌, List, All, take}
use Rattle.flow_dag.specs.declared.edge.Edge.{Edge}
use Rattle.flow_dag.specs.declared.fault.DagFault.{DagFault}
use Rattle.flow_dag.specs.declared.fault.DagFault.TheVariants.{NodeRange, Repeated, Cycle, NoMemory}
use Rattle.flow_dag.specs.Paths.{Reaches, IsAcyclic}
use Rattle.flow_dag.specs.Edges.{HasEdge, IsInside, HaveDistinctEnds, IsOutside, IsRepeated}

-- the fault stands, at the first edge or the least node that has it, and none of the faults above
-- it does
abbrev pub IsFaultOf : ℕ → List Edge → DagFault → Type 0
IsFaultOf n edges (NodeRange i) = IsOutside n edges i × All (IsInside n) (take i edges)
IsFaultOf n edges (Repeated i) =
    All (IsInside n) edges × IsRepeated edges i × HaveDistinctEnds (take i edges)
IsFaultOf n edges (Cycle a) =
    All (IsInside n) edges × HaveDistinctEnds edges × Reaches (HasEdge edges) a a
    × ((b : ℕ) → b < a → ¬ Reaches (HasEdge edges) b b)
IsFaultOf n edges NoMemory =
    All (IsInside n) edges × HaveDistinctEnds edges × IsAcyclic (HasEdge edges)
