-- What the check of a graph can't find wrong where the edges of each node are those of its kind.
use Rattle.std.proofs.Common.{◌≡◌, ℕ, length}
use Rattle.flow_dag.specs.declared.fault.DagFault.{DagFault}
use Rattle.flow_dag.specs.declared.fault.DagFault.TheVariants.{NodeRange, Repeated}
use Rattle.flow_dag.specs.Fault.{IsFaultOf}
use Rattle.jobs.specs.Law.{HasShape}
use Rattle.jobs.specs.JobView.{JobView}
use Rattle.jobs.proofs.EdgeLemmas.{IsOutside-inside, IsRepeated-ports}

-- no edge has an end outside
pub HasShape-inside : (job : JobView) (n i : ℕ) (f : DagFault) → f ≡ NodeRange i → n ≡ length job.nodes → HasShape job → IsFaultOf n job.edges f → ⊥
HasShape-inside job n i f is count (limits, columns, nodes, ends, ports) fault =
    let (outside, before) = rw (is, count) at fault in
    IsOutside-inside (length job.nodes) job.edges i outside ends

-- no edge has the ends of an earlier one
pub HasShape-distinct : (job : JobView) (n i : ℕ) (f : DagFault) → f ≡ Repeated i → HasShape job → IsFaultOf n job.edges f → ⊥
HasShape-distinct job n i f is (limits, columns, nodes, ends, ports) fault =
    let (inside, repeated, before) = rw is at fault in
    IsRepeated-ports job.nodes job.edges i ends ports repeated
