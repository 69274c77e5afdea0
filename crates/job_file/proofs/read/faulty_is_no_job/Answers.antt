use Rattle.job_file.proofs.JobLemmas.{IsFaultIn-no_job}
use Rattle.job_file.proofs.read.faulty_is_no_job.Goals as goal

pub returns : goal.returns
returns c = IsFaultIn-no_job
