use Rattle.std.proofs.Common.{◌≡◌, ◌++◌, ◌==◌, ℕ, drop, map}
use Rattle.std.specs.Prelude.{filter}
use Rattle.std.specs.List.{enumerate_from}
use Rattle.flow_dag.specs.declared.edge.Edge.{Edge}
use Rattle.jobs.specs.Job.{job_view}
use Rattle.flow_model.specs.Topology.{out_edge, out_edges}
use Rattle.flow_model.proofs.tables.edges_from.Given as goal

abbrev pub invariant-loop-number : goal.invariant-loop-number
invariant-loop-number l =
    l.outs ++ map (out_edge (job_view l.job)) (filter (λ (edge : ℕ × Edge). edge.1.from == l.node) (enumerate_from l.number (drop l.number (job_view l.job).edges)))
    ≡ out_edges (job_view l.job) l.node
