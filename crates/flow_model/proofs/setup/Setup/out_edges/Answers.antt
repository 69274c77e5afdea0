use Rattle.std.proofs.Common.{ap, length}
use Rattle.jobs.specs.Job.{job_view}
use Rattle.flow_model.specs.declared.topology.Topology.{Topology}
use Rattle.flow_model.specs.Topology.{out_edges}
use Rattle.flow_model.proofs.RouteLemmas.{row_at, row_within}
use Rattle.flow_model.proofs.setup.Setup.out_edges.Goals as goal

pub bounds-as_slice-node : goal.bounds-as_slice-node
bounds-as_slice-node c =
    let job = job_view c.args.self.now.job in
    row_within (out_edges job) (length job.nodes) c.args.node c.args.self.now.topology.out_edges c.as_slice.result.now (ap (λ (t : Topology). t.out_edges) c.args.self.now.topology_is) c.as_slice.ensures c.requires

pub returns : goal.returns
returns c =
    let job = job_view c.args.self.now.job in
    row_at (out_edges job) (length job.nodes) c.args.node c.args.self.now.topology.out_edges c.as_slice.result.now c.index-as_slice-node.result c.as_slice-2.result.now (ap (λ (t : Topology). t.out_edges) c.args.self.now.topology_is) c.as_slice.ensures
    c.requires c.index-as_slice-node.is c.as_slice-2.ensures
