use Rattle.job_file.proofs.JobLemmas.{IsFaultIn-one}
use Rattle.job_file.proofs.read.files_have_one_fault.Goals as goal

pub returns : goal.returns
returns c = IsFaultIn-one
