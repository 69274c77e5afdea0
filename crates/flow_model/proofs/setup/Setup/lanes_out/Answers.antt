use Rattle.std.proofs.Common.{ap, length}
use Rattle.jobs.specs.Job.{job_view}
use Rattle.flow_model.specs.declared.topology.Topology.{Topology}
use Rattle.flow_model.specs.Lanes.{out_numbers}
use Rattle.flow_model.specs.Workers.{workers_in}
use Rattle.flow_model.proofs.RouteLemmas.{row_at, row_within}
use Rattle.flow_model.proofs.setup.Setup.lanes_out.Goals as goal

pub bounds-as_slice-worker : goal.bounds-as_slice-worker
bounds-as_slice-worker c =
    let job = job_view c.args.self.now.job in
    row_within (out_numbers job) (length (workers_in job)) c.args.worker c.args.self.now.topology.lanes_out c.as_slice.result.now (ap (λ (t : Topology). t.lanes_out) c.args.self.now.topology_is) c.as_slice.ensures c.requires

pub returns : goal.returns
returns c =
    let job = job_view c.args.self.now.job in
    row_at (out_numbers job) (length (workers_in job)) c.args.worker c.args.self.now.topology.lanes_out c.as_slice.result.now c.index-as_slice-worker.result c.as_slice-2.result.now (ap (λ (t : Topology). t.lanes_out) c.args.self.now.topology_is) c.as_slice.ensures
    c.requires c.index-as_slice-worker.is c.as_slice-2.ensures
