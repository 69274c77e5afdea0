use Rattle.std.proofs.Common.{refl, subst}
use Rattle.jobs.specs.Job.{job_view}
use Rattle.tuple_trace.specs.Rows.{AreRows}
use Rattle.flow_model.specs.Setup.{setup_view}
use Rattle.flow_model.proofs.JobLemmas.{connected}
use Rattle.audit_laws.proofs.CheckedLemmas.{checked_run, run_checked}
use Rattle.audit_laws.proofs.OneRunLemmas.{by_parts}
use Rattle.audit_laws.proofs.laws.checked_journals_are_a_run.Goals as goal

pub returns-clause-sound : goal.returns-clause-sound
returns-clause-sound c begin audit journals states is =
    let rows = c.args.rows.now in
    let are : AreRows rows = subst AreRows c.as_slice-numbered.ensures.value c.as_slice-numbered.ensures.rows in
    let job = c.args.setup.now.job in
    record { setup_is = refl; run = checked_run begin (setup_view c.args.setup.now) (connected (job_view job) job.dag job.lawful refl job.drawn) rows are audit journals states is }

pub returns-clause-complete : goal.returns-clause-complete
returns-clause-complete c begin ran is =
    let rows = c.args.rows.now in
    let are : AreRows rows = subst AreRows c.as_slice-numbered.ensures.value c.as_slice-numbered.ensures.rows in
    let job = c.args.setup.now.job in
    run_checked begin (setup_view c.args.setup.now) (connected (job_view job) job.dag job.lawful refl job.drawn) rows are ran.journals ran.states (by_parts begin (setup_view c.args.setup.now) rows ran is).1
