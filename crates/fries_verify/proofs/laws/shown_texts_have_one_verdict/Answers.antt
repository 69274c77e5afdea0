use Rattle.std.proofs.Common.{◌≡◌, ◌<◌, ◌^◌, ◌∙◌, ℕ, List, ap, length, map, refl, subst, sym}
use Rattle.std.specs.FinMap.{entries}
use Rattle.std.specs.Prelude.{All}
use Rattle.audit_fault.specs.Noting.{IsNoted}
use Rattle.audit_laws.specs.Delivered.{feed_of}
use Rattle.audit_laws.specs.Fits.{HasForm, csv_records}
use Rattle.audit_laws.specs.Lines.{lines_of}
use Rattle.audit_laws.specs.Trimmed.{trimmed}
use Rattle.audit_laws.specs.Verdict.{AreInShape}
use Rattle.audit_laws.proofs.FormLemmas.{run_form}
use Rattle.audit_laws.proofs.OneRunLemmas.{by_parts}
use Rattle.audit_laws.proofs.OneVerdictLemmas.{one_verdict as one_fault_in}
use Rattle.audit_laws.proofs.RangeLemmas.{first_range}
use Rattle.audit_laws.proofs.VerdictLemmas.{in_shape, no_text_fault}
use Rattle.flow_model.proofs.JobLemmas.{connected}
use Rattle.flow_model.proofs.WaitingLemmas.{accepted_waiting, length_waiting}
use Rattle.flow_model.specs.Begin.{at_first}
use Rattle.flow_model.specs.Setup.{setup_view}
use Rattle.flow_model.specs.SetupView.{SetupView}
use Rattle.flow_model.specs.Waiting.{waiting_for}
use Rattle.jobs.specs.Job.{job_view}
use Rattle.audit_live.specs.Shown.{shown_waits}
use Rattle.fries_lines.specs.Lines.{noted}
use Rattle.sink_journal.specs.Audit.{audit}
use Rattle.sink_journal.specs.declared.journal.Feed.{Feed}
use Rattle.tuple_trace.specs.Rows.{AreRows}
use Rattle.versions.proofs.KeptLemmas.{accepted-kept}
use Rattle.versions.specs.declared.in_order.Refused.{Refused}
use Rattle.fries_verify.specs.Audits.{Subject, shown_subject}
use Rattle.fries_verify.proofs.AuditLemmas.{HaveNoFault, HaveOneFault, all_noted, one_verdict}
use Rattle.fries_verify.proofs.laws.shown_texts_have_one_verdict.Goals as goal

-- The laws of audits speak of a setup that there is. That of a text that is only thought of differs
-- from one in the rows that requests wait for, so their lemmas hold of it too. They speak of texts,
-- and the records are those of the text that is written of the run.
pub returns : goal.returns
returns c read parts =
    let s = c.args.setup.now in
    let rows = c.args.rows.now in
    let job = s.job in
    let refused = map noted s.judged.refused in
    let linked = connected (job_view job) job.dag job.lawful refl job.drawn in
    let begin = at_first (setup_view s) in
    let shown : List ℕ → List ℕ =
    λ text. shown_waits (length rows) s.judged.accepted (read text) in
    let view : List ℕ → SetupView = λ text. waiting_for (shown text) (setup_view s) in
    let are : AreRows rows =
    subst AreRows c.as_slice-numbered.ensures.value c.as_slice-numbered.ensures.rows in
    let few : length rows < 2 ^ 64 =
    subst (λ rows. length rows < 2 ^ 64) c.as_slice-numbered.ensures.value
    c.as_slice-numbered.type_inv.0 in
    let plans : length s.plans < 2 ^ 64 =
    subst (λ n. n < 2 ^ 64) c.len-plan_count.ensures c.len-plan_count.type_inv in
    let all : All IsNoted refused =
    all_noted s.judged.refused
    (subst (λ (l : List Refused). All (λ (r : Refused). IsNoted (noted r)) l) c.as_slice.ensures
    c.refused_are_noted.ensures) in
    let subject : List ℕ → Subject = λ text.
    record (shown_subject s rows (read text)) { parts = parts text } in
    let none : HaveNoFault subject =
    λ ran text code audited some.
    let v = view text in
    let requests : length v.requests < 2 ^ 64 =
    subst (λ n. n < 2 ^ 64)
    (c.request_count-request_count.ensures ∙ sym (length_waiting (shown text) s.judged.accepted))
    c.request_count-request_count.type_inv in
    let kept =
    accepted-kept (job_view job) v.requests
    (accepted_waiting (job_view job) (shown text) s.judged.accepted s.accepted
    (c.shown_waits_fit.ensures.in_order (length rows) s.judged.accepted (read text))) in
    let p = by_parts begin v rows ran audited.run in
    let form : HasForm refused ran =
    subst (HasForm refused) (sym p.0)
    (run_form begin (first_range (setup_view s)) v job.lawful linked kept plans requests rows are
    few ran.journals ran.states p.1 refused all) in
    let written : List ℕ = audit ran.setup.job refused ran.feeds ran.journals ran.states in
    let back : csv_records written ≡ read text =
    c.written_audits_fit.ensures refused ran ∙ sym audited.fits in
    let shaped : AreInShape v.job (read text)
    (lines_of refused (feed_of begin v rows) (map trimmed ran.journals)
    (map entries ran.states)) =
    subst (λ (feeds : List Feed). AreInShape v.job (read text)
    (lines_of refused feeds (map trimmed ran.journals) (map entries ran.states)))
    (audited.run.run.feed ∙ ap (λ (v : SetupView). feed_of begin v rows) audited.run.setup_is)
    (subst (λ (records : List (List (List ℕ))). AreInShape v.job records
    (lines_of refused ran.feeds (map trimmed ran.journals) (map entries ran.states))) back
    (in_shape begin v rows refused written ran audited.run
    (c.written_audits_fit.ensures refused ran) form)) in
    no_text_fault begin v job.dag linked job.lawful refl job.drawn rows are refused
    (read text) ran.journals ran.states p.1 shaped code some in
    let one : HaveOneFault subject =
    λ text f g a b x y.
    one_fault_in begin (view text) job.dag linked job.lawful refl job.drawn rows refused
    (read text) f g a b x y in
    one_verdict subject none one
