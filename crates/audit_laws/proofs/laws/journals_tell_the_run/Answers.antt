use Rattle.std.proofs.Common.{refl}
use Rattle.jobs.specs.Job.{job_view}
use Rattle.flow_model.specs.Setup.{setup_view}
use Rattle.flow_model.proofs.JobLemmas.{connected}
use Rattle.audit_laws.proofs.OneRunLemmas.{one_run}
use Rattle.audit_laws.proofs.laws.journals_tell_the_run.Goals as goal

pub returns : goal.returns
returns c begin rows a b x y same =
    let job = c.args.setup.now.job in
    one_run begin (setup_view c.args.setup.now) (connected (job_view job) job.dag job.lawful refl job.drawn) rows a b x y same
