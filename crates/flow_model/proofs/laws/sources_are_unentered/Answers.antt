use Rattle.jobs.specs.Job.{job_view}
use Rattle.flow_model.proofs.JobLemmas.{unentered}
use Rattle.flow_model.proofs.laws.sources_are_unentered.Goals as goal

pub returns : goal.returns
returns c number edge there = unentered (job_view c.args.job.now) c.args.job.now.lawful number edge there
