use Rattle.jobs.proofs.OneFaultLemmas.{IsRefused-one}
use Rattle.jobs.proofs.laws.jobs_have_one_fault.Goals as goal

pub returns : goal.returns
returns c = IsRefused-one
