use Rattle.std.proofs.Common.{◌∙◌, ap}
use Rattle.jobs.specs.Job.{job_view}
use Rattle.flow_model.specs.declared.topology.Topology.{Topology}
use Rattle.flow_model.proofs.RouteLemmas.{lane_limits}
use Rattle.flow_model.proofs.setup.Setup.lane.Goals as goal

pub returns-clause-edge : goal.returns-clause-edge
returns-clause-edge c =
    (lane_limits (job_view c.args.self.now.job) c.as_slice.result.now c.args.number c.args.self.now.job.lawful (c.as_slice.ensures ∙ ap (λ (t : Topology). t.lanes) c.args.self.now.topology_is) c.requires).0

pub returns-clause-receiver : goal.returns-clause-receiver
returns-clause-receiver c =
    (lane_limits (job_view c.args.self.now.job) c.as_slice.result.now c.args.number c.args.self.now.job.lawful (c.as_slice.ensures ∙ ap (λ (t : Topology). t.lanes) c.args.self.now.topology_is) c.requires).1
