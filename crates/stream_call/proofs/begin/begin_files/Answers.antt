use Rattle.std.proofs.Common.{◌≡◌, ◌∙◌, ℕ, Option, List, [], ap, arith, inl, inr, length, map}
use Rattle.std.proofs.Common.{subst, sym}
use Rattle.std.proofs.lemmas.Result.{err_from_is_err_and}
use Rattle.jobs.specs.Job.{job_view}
use Rattle.jobs.specs.Nodes.{IsSourceOf}
use Rattle.jobs.specs.declared.job.Job.{Job}
use Rattle.payments.specs.Files.{Files, with_bytes}
use Rattle.payments.specs.World.{ShelfState}
use Rattle.sink_journal.specs.Alerts.{header}
use Rattle.sink_journal.specs.Audit.{audit_header}
use Rattle.sink_journal.specs.Records.{record_text}
use Rattle.flow_model.specs.Begin.{Begin}
use Rattle.versions.specs.declared.request.Request.{Request}
use Rattle.stream_rows.specs.Reader.{IsReadTo}
use Rattle.fries_lines.specs.Lines.{noted}
use Rattle.stream_step.specs.Pending.{exact_from}
use Rattle.stream_step.specs.declared.stream.Stream.{Stream}
use Rattle.stream_run.specs.declared.books.Tally.{Tally}
use Rattle.stream_intake.specs.Intake.{IsKnownTo}
use Rattle.stream_intake.specs.declared.intake.Intake.{Intake}
use Rattle.stream_intake.specs.declared.known.Known.{Known}
use Rattle.stream_run.specs.Standing.{Begins, FileHolds, IsNew}
use Rattle.stream_call.specs.Opened.{every_of, names_of}
use Rattle.stream_call.specs.Unopened.{NoMemory, Unwritten}
use Rattle.stream_call.proofs.OpenedLemmas.{none-due}
use Rattle.stream_run.proofs.SavedLemmas.{held, held_before}
use Rattle.stream_call.proofs.begin.begin_files.Goals as goal

pub returns-clause-opened : goal.returns-clause-opened
returns-clause-opened g c =
    let made = c.in_ok-opened.opened.value in
    let is = c.in_ok-opened.ensures in
    let intake = c.in_ok-intake.intake in
    let boxed = c.in_ok-intake-2.ensures in
    let stream_is : made.stream ≡ intake.stream =
    is.stream ∙ ap (λ (i : Intake). i.stream) boxed in
    let known_is : made.inputs.known ≡ intake.known =
    is.known ∙ ap (λ (i : Intake). i.known) boxed in
    let job_in : intake.stream.setup.job ≡ c.in_ok-job.field-0.job.value =
    c.in_ok-intake.ensures.job ∙ c.into_inner.ensures in
    let files = c.args.files.now in
    let now = (g.S.Shelf.state c.write_headers.new.shelf).files in
    let mid = (g.S.Shelf.state c.asked_in.new.shelf).files in
    let alerts = record_text (header intake.stream.setup.job.columns) in
    let audit = record_text audit_header in
    let row : made.stream.start.row ≡ 0 =
    ap (λ (s : Stream). s.start.row) stream_is
    ∙ ap (λ (b : Begin). b.row) c.in_ok-intake.ensures.first in
    let job_is : made.stream.setup.job ≡ c.in_ok-job.field-0.job.value =
    ap (λ (s : Stream). s.setup.job) stream_is ∙ job_in in
    let headers = c.in_ok-headers.ensures in
    let text_is : c.in_ok-headers.headers.alerts ≡ alerts =
    headers.alerts
    ∙ ap (λ (j : Job). record_text (header j.columns)) (c.deref.ensures ∙ sym job_in) in
    let files_are : now ≡ with_bytes (with_bytes mid files.alerts alerts) files.audit audit =
    c.in_ok-write_headers.ensures.files
    ∙ (ap (λ (t : List ℕ). with_bytes (with_bytes mid files.alerts t) files.audit
    c.in_ok-headers.headers.audit) text_is
    ∙ ap (λ (t : List ℕ). with_bytes (with_bytes mid files.alerts alerts) files.audit t)
    headers.audit) in
    let new : IsNew (names_of files) intake.stream now =
    record {
      first = c.in_ok-intake.ensures.first;
      alerts =
          subst (λ (f : Option Files). FileHolds f files.alerts alerts) (sym files_are)
          (held_before mid files.alerts files.audit alerts audit c.requires.apart);
      audit =
          subst (λ (f : Option Files). FileHolds f files.audit audit) (sym files_are)
          (held (with_bytes mid files.alerts alerts) files.audit audit);
    } in
    record {
      begins =
          subst (λ (b : Option ℕ). Begins b (names_of files) made.stream now)
          (sym (is.behind ∙ c.origin.ensures.behind))
          (subst (λ (s : Stream). IsNew (names_of files) s now) (sym stream_is) new);
      ready = record {
        source_is =
            subst (λ (n : ℕ). IsSourceOf (job_view made.stream.setup.job) n) (sym is.source)
            (subst (λ (j : Job). IsSourceOf (job_view j) c.in_ok-job.field-0.source)
            (sym job_is) c.in_ok-job.ensures.source);
        known =
            subst (λ (k : Known). IsKnownTo k.requests made.stream) (sym known_is)
            (subst (λ (s : Stream). IsKnownTo intake.known.requests s) (sym stream_is)
            (subst (λ (r : List Request). IsKnownTo r intake.stream)
            (sym c.in_ok-intake.ensures.known) c.in_ok-intake.ensures.is_known));
        fed = omega (arith, is.fed, c.origin.ensures.left_out);
        few = omega (arith, row);
        none_due = none-due (every_of c.args.files.now.saving) _
            (ap (λ (t : Tally). t.unsaved) is.tally);
      };
      unread = λ job. subst (λ (n : ℕ). IsReadTo job n made.inputs.reader []) (sym is.fed)
          (is.unread job);
      kept = is.kept;
      goes_on = is.goes_on;
      exact = rw stream_is (c.in_ok-intake.ensures.exact
          ∙ ap (λ b. exact_from b intake.stream.start.turned) c.mode_of.ensures.exact);
      read = is.read ∙ ap (λ (k : Known). length k.requests) (sym is.known);
      noted_are = is.noted ∙ ap (map noted) (sym is.refused);
      none_shown = ap (λ (t : Tally). t.shown) is.tally;
    }

pub returns-clause-of : goal.returns-clause-of
returns-clause-of g c =
    let is = c.in_ok-opened.ensures in
    let boxed = c.in_ok-intake-2.ensures in
    let intake = c.in_ok-intake.ensures in
    let job = c.into_inner.ensures in
    record {
      job = rw (is.stream, boxed, intake.job, job) c.in_ok-job.ensures.job;
      requests = rw (is.stream, is.known, boxed, intake.job, job, intake.known)
          c.in_ok-job.ensures.asked;
      splits = rw (is.stream, boxed, intake.job) intake.splits;
    }

pub returns-clause-anew : goal.returns-clause-anew
returns-clause-anew g c =
    let is = c.in_ok-opened.ensures in
    let boxed = c.in_ok-intake-2.ensures in
    let intake = c.in_ok-intake.ensures in
    let job = c.into_inner.ensures in
    let headers = c.in_ok-headers.ensures in
    record {
      behind = is.behind ∙ c.origin.ensures.behind;
      none_left_out = is.fed ∙ c.origin.ensures.left_out;
      ordered = rw (is.stream, boxed) (intake.ordered ∙ c.mode_of.ensures.ordered);
      none_issued = rw (is.stream, boxed) intake.none;
      refused = rw (is.stream, is.known, is.refused, boxed, intake.known) intake.refused;
      alerts_counted = rw (is.stream, boxed, intake.job, job, sym c.deref.ensures)
          (ap (λ (t : Tally). t.alerts) is.tally
          ∙ (c.origin.ensures.alerts ∙ ap length headers.alerts));
      audit_counted = ap (λ (t : Tally). t.audit) is.tally
          ∙ (c.origin.ensures.audit ∙ ap length headers.audit);
      files_are = rw (
        is.stream,
        boxed,
        intake.job,
        job,
        sym c.deref.ensures,
        sym headers.alerts,
        sym headers.audit,
        sym c.in_ok-job.ensures.files,
      )
          c.in_ok-write_headers.ensures.files;
    }

pub returns-in_err-job-clause-cause : goal.returns-in_err-job-clause-cause
returns-in_err-job-clause-cause g c =
    let fault = err_from_is_err_and c.from_residual.result c.from_residual.ensures.1 in
    rw (fault.1, fault.2) (inl (c.in_err-job.ensures.cause, c.in_err-job.ensures.files))

pub returns-in_err-headers-clause-cause : goal.returns-in_err-headers-clause-cause
returns-in_err-headers-clause-cause g c =
    let fault =
    err_from_is_err_and c.from_residual-in_err-headers.result
    c.from_residual-in_err-headers.ensures.1 in
    let same = c.in_ok-job.ensures.kept in
    rw (fault.1, fault.2)
    (inl (
      NoMemory (ap (λ (s : ShelfState). s.faults) same),
      ap (λ (s : ShelfState). s.files) same,
    ))

pub returns-in_err-intake-clause-cause : goal.returns-in_err-intake-clause-cause
returns-in_err-intake-clause-cause g c =
    let fault =
    err_from_is_err_and c.from_residual-in_err-intake.result
    c.from_residual-in_err-intake.ensures.1 in
    let same = c.in_ok-job.ensures.kept in
    rw (fault.1, fault.2)
    (inl (
      NoMemory (ap (λ (s : ShelfState). s.faults) same),
      ap (λ (s : ShelfState). s.files) same,
    ))

pub returns-in_err-intake-2-clause-cause : goal.returns-in_err-intake-2-clause-cause
returns-in_err-intake-2-clause-cause g c =
    let fault =
    err_from_is_err_and c.from_residual-in_err-intake-2.result
    c.from_residual-in_err-intake-2.ensures.1 in
    let same = c.in_ok-job.ensures.kept in
    rw (fault.1, fault.2)
    (inl (
      NoMemory (ap (λ (s : ShelfState). s.faults) same),
      ap (λ (s : ShelfState). s.files) same,
    ))

pub returns-in_err-opened-clause-cause : goal.returns-in_err-opened-clause-cause
returns-in_err-opened-clause-cause g c =
    let fault =
    err_from_is_err_and c.from_residual-in_err-opened.result
    c.from_residual-in_err-opened.ensures.1 in
    let same = c.in_ok-job.ensures.kept in
    rw (fault.1, fault.2)
    (inl (
      NoMemory (ap (λ (s : ShelfState). s.faults) same),
      ap (λ (s : ShelfState). s.files) same,
    ))

pub returns-in_err-write_headers-clause-cause : goal.returns-in_err-write_headers-clause-cause
returns-in_err-write_headers-clause-cause g c =
    let fault =
    err_from_is_err_and c.from_residual-in_err-write_headers.result
    c.from_residual-in_err-write_headers.ensures.1 in
    let same = c.in_ok-job.ensures.kept in
    rw (fault.1, fault.2)
    (inr (
      Unwritten c.in_err-write_headers.field-0.0 (rw (sym (ap (λ (s : ShelfState). s.faults) same))
          c.in_err-write_headers.ensures.cause),
      rw (sym (ap (λ (s : ShelfState). s.files) same)) c.in_err-write_headers.ensures.stopped,
    ))
