use Rattle.std.proofs.Common.{refl}
use Rattle.jobs.specs.Job.{job_view}
use Rattle.jobs.proofs.SettleLemmas.{HasSettledWeights-drawn}
use Rattle.jobs.proofs.laws.weights_settle.Goals as goal

pub returns : goal.returns
returns c = HasSettledWeights-drawn (job_view c.args.job.now) c.args.job.now.dag c.args.job.now.drawn refl
