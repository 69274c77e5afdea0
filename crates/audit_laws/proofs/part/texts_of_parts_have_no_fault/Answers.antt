use Rattle.std.proofs.Common.{refl, subst}
use Rattle.jobs.specs.Job.{job_view}
use Rattle.tuple_trace.specs.Rows.{AreRows}
use Rattle.flow_model.specs.Run.{Ran}
use Rattle.flow_model.specs.Setup.{setup_view}
use Rattle.flow_model.proofs.JobLemmas.{connected}
use Rattle.audit_laws.specs.Fits.{kept_lines, csv_records}
use Rattle.audit_laws.specs.Part.{uncounted}
use Rattle.audit_laws.specs.Verdict.{AreInShape}
use Rattle.audit_laws.proofs.OneRunLemmas.{by_parts}
use Rattle.audit_laws.proofs.PartLemmas.{no_part_fault, part_shape}
use Rattle.audit_laws.proofs.part.texts_of_parts_have_no_fault.Goals as goal

pub returns : goal.returns
returns c begin refused text ran fault begins noted is fits some stands =
    let rows = c.args.rows.now in
    let are : AreRows rows = subst AreRows c.as_slice-numbered.ensures.value c.as_slice-numbered.ensures.rows in
    let job = c.args.setup.now.job in
    let setup = setup_view c.args.setup.now in
    let form = c.lines_of_runs_have_form.ensures begin refused ran begins noted is in
    let p = by_parts begin setup rows ran is in
    let shaped =
    subst (λ (r : Ran). AreInShape setup.job (csv_records text) (kept_lines refused (uncounted r))) p.0
    (part_shape begin setup rows refused text ran is fits form) in
    no_part_fault begin setup job.dag (connected (job_view job) job.dag job.lawful refl job.drawn) job.lawful refl job.drawn rows are refused (csv_records text) ran.journals ran.states p.1 shaped fault some stands
