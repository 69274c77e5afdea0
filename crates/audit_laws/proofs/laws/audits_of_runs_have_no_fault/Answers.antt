use Rattle.std.proofs.Common.{refl, subst}
use Rattle.jobs.specs.Job.{job_view}
use Rattle.tuple_trace.specs.Rows.{AreRows}
use Rattle.flow_model.specs.Setup.{setup_view}
use Rattle.flow_model.proofs.JobLemmas.{connected}
use Rattle.audit_laws.proofs.FaultLemmas.{no_fault}
use Rattle.audit_laws.proofs.OneRunLemmas.{by_parts}
use Rattle.audit_laws.proofs.laws.audits_of_runs_have_no_fault.Goals as goal

pub returns : goal.returns
returns c begin ran fault is some stands =
    let rows = c.args.rows.now in
    let are : AreRows rows = subst AreRows c.as_slice-numbered.ensures.value c.as_slice-numbered.ensures.rows in
    let job = c.args.setup.now.job in
    no_fault begin (setup_view c.args.setup.now) job.dag (connected (job_view job) job.dag job.lawful refl job.drawn) refl job.drawn rows are ran.journals ran.states
    (by_parts begin (setup_view c.args.setup.now) rows ran is).1 fault some stands
