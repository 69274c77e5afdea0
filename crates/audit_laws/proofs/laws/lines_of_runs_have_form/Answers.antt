use Rattle.std.proofs.Common.{◌<◌, ◌^◌, length, refl, subst, sym}
use Rattle.jobs.specs.Job.{job_view}
use Rattle.tuple_trace.specs.Rows.{AreRows}
use Rattle.versions.proofs.KeptLemmas.{accepted-kept}
use Rattle.flow_model.specs.Setup.{setup_view}
use Rattle.flow_model.proofs.JobLemmas.{connected}
use Rattle.audit_laws.specs.Fits.{HasForm}
use Rattle.audit_laws.proofs.FormLemmas.{run_form}
use Rattle.audit_laws.proofs.OneRunLemmas.{by_parts}
use Rattle.audit_laws.proofs.laws.lines_of_runs_have_form.Goals as goal

pub returns : goal.returns
returns c begin refused ran begins noted is =
    let rows = c.args.rows.now in
    let are : AreRows rows = subst AreRows c.as_slice-numbered.ensures.value c.as_slice-numbered.ensures.rows in
    let few : length rows < 2 ^ 64 = subst (λ rows. length rows < 2 ^ 64) c.as_slice-numbered.ensures.value c.as_slice-numbered.type_inv.0 in
    let s = c.args.setup.now in
    let plans : length s.plans < 2 ^ 64 = subst (λ n. n < 2 ^ 64) c.len-plan_count.ensures c.len-plan_count.type_inv in
    let requests : length s.judged.accepted < 2 ^ 64 = subst (λ n. n < 2 ^ 64) c.request_count-request_count.ensures c.request_count-request_count.type_inv in
    let p = by_parts begin (setup_view s) rows ran is in
    let form = run_form begin begins (setup_view s) s.job.lawful (connected (job_view s.job) s.job.dag s.job.lawful refl s.job.drawn) (accepted-kept (job_view s.job) s.judged.accepted s.accepted)
    plans requests rows are few ran.journals ran.states p.1 refused noted in
    subst (HasForm refused) (sym p.0) form
