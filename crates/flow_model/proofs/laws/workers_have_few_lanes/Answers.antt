use Rattle.jobs.specs.Job.{job_view}
use Rattle.flow_model.specs.Workers.{workers_in}
use Rattle.flow_model.proofs.FewLanes.{few_lanes, some_lane}
use Rattle.flow_model.proofs.WorkerLemmas.{item_at}
use Rattle.flow_model.proofs.laws.workers_have_few_lanes.Goals as goal

pub returns-clause-some : goal.returns-clause-some
returns-clause-some c worker lt =
    let (who, there) = item_at (workers_in (job_view c.args.job.now)) worker lt in
    some_lane (job_view c.args.job.now) worker who c.args.job.now.lawful there

pub returns-clause-few : goal.returns-clause-few
returns-clause-few c worker lt =
    let (who, there) = item_at (workers_in (job_view c.args.job.now)) worker lt in
    few_lanes (job_view c.args.job.now) worker who c.args.job.now.lawful there
