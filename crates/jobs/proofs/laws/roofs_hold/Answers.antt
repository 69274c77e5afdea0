use Rattle.jobs.specs.Job.{job_view}
use Rattle.jobs.proofs.RoofLemmas.{roof_of_node}
use Rattle.jobs.proofs.laws.roofs_hold.Goals as goal

pub returns-clause-covers : goal.returns-clause-covers
returns-clause-covers c v node there = (roof_of_node (job_view c.args.job.now) v node c.args.job.now.lawful there).0

pub returns-clause-limit : goal.returns-clause-limit
returns-clause-limit c v node there = (roof_of_node (job_view c.args.job.now) v node c.args.job.now.lawful there).1
