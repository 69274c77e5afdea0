use Rattle.std.proofs.Common.{◌∙◌, ap, length, refl}
use Rattle.jobs.specs.Job.{job_view}
use Rattle.flow_model.specs.SetupView.{SetupView}
use Rattle.flow_model.specs.Setup.{setup_view}
use Rattle.flow_model.specs.Workers.{workers_in}
use Rattle.flow_model.proofs.JobLemmas.{connected}
use Rattle.audit_laws.specs.Fits.{csv_records}
use Rattle.audit_laws.specs.Part.{uncounted}
use Rattle.audit_laws.proofs.OneRunLemmas.{one_run}
use Rattle.audit_laws.proofs.PartLemmas.{length_uncounted, part_shape}
use Rattle.audit_laws.proofs.VerdictLemmas.{same_trims}
use Rattle.audit_laws.proofs.part.texts_of_parts_tell_the_run.Goals as goal

pub returns : goal.returns
returns c begin refused text a b begins noted x y p q =
    let rows = c.args.rows.now in
    let v = c.lines_of_runs_have_form.ensures begin refused a begins noted x in
    let w = c.lines_of_runs_have_form.ensures begin refused b begins noted y in
    let job = c.args.setup.now.job in
    let here : SetupView = setup_view c.args.setup.now in
    one_run begin here (connected (job_view job) job.dag job.lawful refl job.drawn) rows a b x y (
    same_trims here job.lawful refused (csv_records text) a.feeds b.feeds a.journals b.journals (uncounted a).states (uncounted b).states
    (x.run.one_journal_each ∙ ap (λ (s : SetupView). length (workers_in s.job)) x.setup_is) (length_uncounted a ∙ ap (λ (s : SetupView). length (workers_in s.job)) x.setup_is)
    (y.run.one_journal_each ∙ ap (λ (s : SetupView). length (workers_in s.job)) y.setup_is) (length_uncounted b ∙ ap (λ (s : SetupView). length (workers_in s.job)) y.setup_is)
    (part_shape begin here rows refused text a x p v) (part_shape begin here rows refused text b y q w))
