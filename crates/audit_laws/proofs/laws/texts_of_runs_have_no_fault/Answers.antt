use Rattle.std.proofs.Common.{◌∙◌, List, ap, map, refl, subst}
use Rattle.std.specs.FinMap.{entries}
use Rattle.jobs.specs.Job.{job_view}
use Rattle.sink_journal.specs.declared.journal.Feed.{Feed}
use Rattle.tuple_trace.specs.Rows.{AreRows}
use Rattle.flow_model.specs.SetupView.{SetupView}
use Rattle.flow_model.specs.Setup.{setup_view}
use Rattle.flow_model.proofs.JobLemmas.{connected}
use Rattle.audit_laws.specs.Delivered.{feed_of}
use Rattle.audit_laws.specs.Fits.{csv_records}
use Rattle.audit_laws.specs.Lines.{lines_of}
use Rattle.audit_laws.specs.Trimmed.{trimmed}
use Rattle.audit_laws.specs.Verdict.{AreInShape}
use Rattle.audit_laws.proofs.OneRunLemmas.{by_parts}
use Rattle.audit_laws.proofs.VerdictLemmas.{in_shape, no_text_fault}
use Rattle.audit_laws.proofs.laws.texts_of_runs_have_no_fault.Goals as goal

pub returns : goal.returns
returns c begin refused text ran fault begins noted is fits some stands =
    let rows = c.args.rows.now in
    let are : AreRows rows = subst AreRows c.as_slice-numbered.ensures.value c.as_slice-numbered.ensures.rows in
    let job = c.args.setup.now.job in
    let form = c.lines_of_runs_have_form.ensures begin refused ran begins noted is in
    let p = by_parts begin (setup_view c.args.setup.now) rows ran is in
    let shaped : AreInShape (setup_view c.args.setup.now).job (csv_records text) (lines_of refused (feed_of begin (setup_view c.args.setup.now) rows) (map trimmed ran.journals) (map entries ran.states)) =
    subst (λ (feeds : List Feed). AreInShape (setup_view c.args.setup.now).job (csv_records text) (lines_of refused feeds (map trimmed ran.journals) (map entries ran.states)))
    (is.run.feed ∙ ap (λ (s : SetupView). feed_of begin s rows) is.setup_is) (in_shape begin (setup_view c.args.setup.now) rows refused text ran is fits form) in
    no_text_fault begin (setup_view c.args.setup.now) job.dag (connected (job_view job) job.dag job.lawful refl job.drawn) job.lawful refl job.drawn rows are refused (csv_records text) ran.journals ran.states p.1 shaped fault some stands
