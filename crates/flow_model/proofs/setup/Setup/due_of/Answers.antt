use Rattle.jobs.specs.Job.{job_view}
use Rattle.flow_model.specs.Dues.{edges_in}
use Rattle.flow_model.specs.Setup.{setup_view}
use Rattle.flow_model.specs.Workers.{nth_worker}
use Rattle.flow_model.proofs.DueLemmas.{bit_told, places_lanes}
use Rattle.flow_model.proofs.setup.Setup.due_of.Goals as goal

pub returns-clause-head : goal.returns-clause-head
returns-clause-head c = bit_told c.is_head.result c.args.plan.now.heads c.node_of.result (nth_worker (job_view c.args.self.now.job) c.args.worker).node c.is_head.ensures c.node_of.ensures.at

pub returns-clause-lanes : goal.returns-clause-lanes
returns-clause-lanes c = places_lanes c.places_on.result c.args.plan.now.edges (edges_in (setup_view c.args.self.now).job c.args.worker) c.places_on.ensures
