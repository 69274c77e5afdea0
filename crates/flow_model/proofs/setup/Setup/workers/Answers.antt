use Rattle.std.proofs.Common.{◌∙◌, sym}
use Rattle.flow_model.proofs.WorkerListLemmas.{length-workers_from}
use Rattle.flow_model.proofs.setup.Setup.workers.Goals as goal

pub returns-clause-value : goal.returns-clause-value
returns-clause-value c = c.worker_count.ensures.value ∙ sym (length-workers_from 0 0 c.args.self.now.job.nodes)
