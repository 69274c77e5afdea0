use Rattle.std.proofs.Common.{refl}
use Rattle.jobs.specs.Job.{job_view}
use Rattle.flow_model.specs.Setup.{setup_view}
use Rattle.flow_model.proofs.JobLemmas.{connected}
use Rattle.audit_laws.specs.Fits.{csv_records}
use Rattle.audit_laws.proofs.OneVerdictLemmas.{one_verdict}
use Rattle.audit_laws.proofs.laws.texts_have_one_fault.Goals as goal

pub returns : goal.returns
returns c begin rows refused text f g a b h k =
    let job = c.args.setup.now.job in
    one_verdict begin (setup_view c.args.setup.now) job.dag (connected (job_view job) job.dag job.lawful refl job.drawn) job.lawful refl job.drawn rows refused (csv_records text) f g a b h k
