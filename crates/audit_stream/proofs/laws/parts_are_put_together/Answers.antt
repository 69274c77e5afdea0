use Rattle.jobs.specs.Job.{job_view}
use Rattle.audit_stream.proofs.PartLemmas.{put_together_so}
use Rattle.audit_stream.proofs.laws.parts_are_put_together.Goals as goal

pub returns : goal.returns
returns c earlier last all is = put_together_so (job_view c.args.job.now) c.args.job.now.lawful earlier last all is
