use Rattle.std.proofs.Common.{◌∙◌, ap, sym, subst, length, ◌<◌}
use Rattle.jobs.specs.Job.{job_view}
use Rattle.flow_model.specs.declared.topology.Topology.{Topology}
use Rattle.flow_model.specs.declared.topology.WorkerAt.{WorkerAt}
use Rattle.flow_model.proofs.RouteLemmas.{worker_is_at}
use Rattle.flow_model.proofs.WorkerPlaces.{node_below}
use Rattle.flow_model.proofs.setup.Setup.worker_at.Goals as goal

pub returns-clause-limit : goal.returns-clause-limit
returns-clause-limit c =
    let job = job_view c.args.self.now.job in
    let is = worker_is_at job c.as_slice.result.now c.args.worker (c.as_slice.ensures ∙ ap (λ (t : Topology). t.workers) c.args.self.now.topology_is) c.requires in
    subst (λ (at : WorkerAt). at.node < length job.nodes) (sym is) (node_below job c.args.worker c.requires)
