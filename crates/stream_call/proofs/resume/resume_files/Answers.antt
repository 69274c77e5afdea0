use Rattle.std.proofs.Common.{◌≡◌, ◌∙◌, ℕ, Bool, Option, List, Some, [], ap, arith, inl, inr}
use Rattle.std.proofs.Common.{length, map, subst}
use Rattle.std.proofs.Common.{sym, take}
use Rattle.std.proofs.lemmas.Result.{err_from_is_err_and}
use Rattle.jobs.specs.Job.{job_view}
use Rattle.jobs.specs.JobView.{JobView}
use Rattle.jobs.specs.Nodes.{IsSourceOf}
use Rattle.jobs.specs.declared.job.Job.{Job}
use Rattle.payments.specs.World.{ShelfState}
use Rattle.flow_model.specs.Begin.{Begin}
use Rattle.flow_model.specs.Setup.{setup_view}
use Rattle.flow_model.specs.SetupView.{SetupView}
use Rattle.versions.specs.declared.request.Request.{Request}
use Rattle.stream_rows.specs.Reader.{IsReadTo}
use Rattle.stream_step.specs.Resumed.{IsResumed}
use Rattle.fries_lines.specs.Lines.{noted}
use Rattle.stream_step.specs.Pending.{exact_from}
use Rattle.stream_step.specs.declared.stream.Stream.{Stream}
use Rattle.stream_run.specs.declared.books.Tally.{Tally}
use Rattle.stream_intake.specs.Intake.{IsKnownTo, judged_in}
use Rattle.stream_intake.specs.declared.intake.Intake.{Intake}
use Rattle.stream_intake.specs.declared.known.Known.{Known}
use Rattle.stream_run.specs.Standing.{Begins}
use Rattle.stream_save.specs.StreamText.{StreamSave}
use Rattle.stream_call.specs.Opened.{IsStreamSaveOf, every_of, names_of}
use Rattle.stream_call.specs.Opened.{resume_at}
use Rattle.stream_call.specs.Unopened.{NoFit, NoMemory, NoSave}
use Rattle.stream_call.proofs.OpenedLemmas.{none-due}
use Rattle.stream_call.proofs.UnopenedLemmas.{unfit}
use Rattle.stream_call.proofs.resume.resume_files.Goals as goal

pub returns-clause-opened : goal.returns-clause-opened
returns-clause-opened g c =
    let made = c.in_ok-opened.opened.value in
    let is = c.in_ok-opened.ensures in
    let intake = c.in_ok-intake.intake in
    let boxed = c.in_ok-intake-2.ensures in
    let now = (g.S.Shelf.state c.cut_files.new.shelf).files in
    let save = c.in_ok-job-2.field-0.save.value in
    let origin = c.in_ok-origin.ensures in
    let seen = c.deref.ensures in
    let stream_is : made.stream ≡ intake.stream =
    is.stream ∙ ap (λ (i : Intake). i.stream) boxed in
    let known_is : made.inputs.known ≡ intake.known =
    is.known ∙ ap (λ (i : Intake). i.known) boxed in
    let row : made.stream.start.row ≡ save.start.row =
    ap (λ (s : Stream). s.start.row) stream_is
    ∙ (ap (λ (b : Begin). b.row) c.in_ok-intake.ensures.start
    ∙ ap (λ (s : StreamSave). s.start.row) c.into_inner-save.ensures) in
    let begin_row = ap (λ (s : StreamSave). s.start.row) seen in
    let resumed = c.in_ok-intake.ensures.resumed in
    let job_is : job_view made.stream.setup.job ≡ job_view c.in_ok-job.field-0.job.value =
    ap (λ (s : Stream). job_view s.setup.job) stream_is
    ∙ (ap (λ (s : SetupView). s.job) resumed.setup_is
    ∙ (resumed.job_is ∙ ap job_view (c.into_inner-job.ensures ∙ c.in_ok-job-2.ensures.job))) in
    record {
      begins =
          subst (λ (b : Option ℕ). Begins b (names_of c.args.files.now) made.stream now)
          (sym (is.behind ∙ (origin.behind ∙ ap (λ (s : StreamSave). Some s.start.row) seen))) row;
      ready = record {
        source_is =
            subst (λ (n : ℕ). IsSourceOf (job_view made.stream.setup.job) n) (sym is.source)
            (subst (λ (j : JobView). IsSourceOf j c.in_ok-job.field-0.source)
            (sym job_is) c.in_ok-job.ensures.source);
        known =
            subst (λ (k : Known). IsKnownTo k.requests made.stream) (sym known_is)
            (subst (λ (s : Stream). IsKnownTo intake.known.requests s) (sym stream_is)
            (subst (λ (r : List Request). IsKnownTo r intake.stream)
            (sym c.in_ok-intake.ensures.known) c.in_ok-intake.ensures.is_known));
        fed = omega (arith, is.fed, origin.left_out, origin.within, row, begin_row);
        few = omega (arith, row, origin.few, begin_row);
        none_due = none-due (every_of c.args.files.now.saving) _
            (ap (λ (t : Tally). t.unsaved) is.tally);
      };
      unread = λ job. subst (λ (n : ℕ). IsReadTo job n made.inputs.reader []) (sym is.fed)
          (is.unread job);
      kept = is.kept;
      goes_on = is.goes_on;
      exact = rw stream_is (c.in_ok-intake.ensures.exact
          ∙ ap (λ b. exact_from b intake.stream.start.turned) c.mode_of.ensures.exact);
      read = is.read ∙ ap (λ (k : Known). length k.requests) (sym is.known);
      noted_are = is.noted ∙ ap (map noted) (sym is.refused);
      none_shown = ap (λ (t : Tally). t.shown) is.tally;
    }

pub returns-clause-of : goal.returns-clause-of
returns-clause-of g c =
    let is = c.in_ok-opened.ensures in
    let boxed = c.in_ok-intake-2.ensures in
    let intake = c.in_ok-intake.ensures in
    let job : c.into_inner-job.result ≡ c.in_ok-job.field-0.job.value =
    c.into_inner-job.ensures ∙ c.in_ok-job-2.ensures.job in
    let job_is :
    job_view c.in_ok-intake.intake.stream.setup.job ≡ job_view c.in_ok-job.field-0.job.value =
    ap (λ (s : SetupView). s.job) intake.resumed.setup_is
    ∙ (intake.resumed.job_is ∙ ap job_view job) in
    record {
      job = rw (is.stream, boxed, job_is) c.in_ok-job.ensures.job;
      requests = rw (is.stream, is.known, boxed, job_is, intake.known) c.in_ok-job.ensures.asked;
      splits = rw (is.stream, boxed, ap (λ (j : JobView). j.nodes) job_is) (rw
          (sym (ap (λ (j : Job). j.nodes) job)) intake.splits);
    }

pub returns-clause-from : goal.returns-clause-from
returns-clause-from g c =
    let is = c.in_ok-opened.ensures in
    let boxed = c.in_ok-intake-2.ensures in
    let intake = c.in_ok-intake.ensures in
    let stream = c.in_ok-intake.intake.stream in
    let origin = c.in_ok-origin.ensures in
    let seen = c.deref.ensures in
    let save = c.in_ok-job-2.field-0.save.value in
    let alerts = origin.alerts ∙ ap (λ (s : StreamSave). s.alerts) seen in
    let audit = origin.audit ∙ ap (λ (s : StreamSave). s.audit) seen in
    let same = c.into_inner-save.ensures in
    let asked = c.args.files.now in
    let requests = c.in_ok-job.field-0.file.requests in
    let first : job_view stream.setup.job ≡ job_view c.into_inner-job.result =
    ap (λ (s : SetupView). s.job) intake.resumed.setup_is ∙ intake.resumed.job_is in
    let job_is : job_view stream.setup.job ≡ job_view c.in_ok-job.field-0.job.value =
    first ∙ ap job_view (c.into_inner-job.ensures ∙ c.in_ok-job-2.ensures.job) in
    let held : IsResumed (job_view c.into_inner-job.result)
    (judged_in stream (take save.read requests)).accepted c.mode_of.result.ordered save
    (setup_view stream.setup) =
    subst (λ (s : StreamSave). IsResumed (job_view c.into_inner-job.result)
    (judged_in stream (take s.read requests)).accepted c.mode_of.result.ordered s
    (setup_view stream.setup)) same intake.resumed in
    let resumed : IsResumed (job_view stream.setup.job)
    (judged_in stream (take save.read requests)).accepted asked.plan.ordered save
    (setup_view stream.setup) =
    subst (λ (b : Bool). IsResumed (job_view stream.setup.job)
    (judged_in stream (take save.read requests)).accepted b save (setup_view stream.setup))
    c.mode_of.ensures.ordered
    (subst (λ (j : JobView). IsResumed j (judged_in stream (take save.read requests)).accepted
    c.mode_of.result.ordered save (setup_view stream.setup)) (sym first) held) in
    record {
      save = save;
      read = rw (is.stream, boxed, job_is, sym c.in_ok-job.ensures.files)
          c.in_ok-job-2.ensures.read;
      behind = is.behind ∙ (origin.behind ∙ ap (λ (s : StreamSave). Some s.start.row) seen);
      left_out = is.fed ∙ origin.left_out;
      start = rw (is.stream, boxed) (intake.start ∙ ap (λ (s : StreamSave). s.start) same);
      resumed = rw (is.stream, is.known, boxed, intake.known) resumed;
      refused = rw (is.stream, is.known, is.refused, boxed, intake.known, sym same) intake.refused;
      alerts_counted = ap (λ (t : Tally). t.alerts) is.tally ∙ alerts;
      audit_counted = ap (λ (t : Tally). t.audit) is.tally ∙ audit;
      cut = rw (
        sym c.in_ok-job.ensures.files,
        sym c.in_ok-job-2.ensures.files,
        sym alerts,
        sym audit,
      )
          c.in_ok-cut_files.ensures.cut;
    }

pub returns-in_err-job-clause-cause : goal.returns-in_err-job-clause-cause
returns-in_err-job-clause-cause g c resumed =
    let fault = err_from_is_err_and c.from_residual.result c.from_residual.ensures.1 in
    rw (fault.1, fault.2) (inl (c.in_err-job.ensures.cause, c.in_err-job.ensures.files))

pub returns-in_err-job-2-clause-cause : goal.returns-in_err-job-2-clause-cause
returns-in_err-job-2-clause-cause g c resumed =
    let fault =
    err_from_is_err_and c.from_residual-in_err-job-2.result
    c.from_residual-in_err-job-2.ensures.1 in
    let same = c.in_ok-job.ensures.kept in
    rw (fault.1, fault.2)
    (inl (
      NoSave (job_view c.in_ok-job.field-0.job.value) (resume_at c.args.save.now c.args.left_out)
          c.in_err-job-2.field-0.0
          c.in_ok-job.ensures.job resumed (rw (sym same) c.in_err-job-2.ensures.cause),
      c.in_err-job-2.ensures.files ∙ ap (λ (s : ShelfState). s.files) same,
    ))

pub returns-in_err-origin-clause-cause : goal.returns-in_err-origin-clause-cause
returns-in_err-origin-clause-cause g c resumed =
    let fault =
    err_from_is_err_and c.from_residual-in_err-origin.result
    c.from_residual-in_err-origin.ensures.1 in
    let asked = c.in_ok-job in
    let same = c.in_ok-job-2.ensures.kept ∙ asked.ensures.kept in
    let job = job_view asked.field-0.job.value in
    let requests = asked.field-0.file.requests in
    let save = c.in_ok-job-2.field-0.save.value in
    let saved : IsStreamSaveOf (g.S.Shelf.state c.args.shelf.now).files c.args.save.now job save =
    rw (sym asked.ensures.files) c.in_ok-job-2.ensures.read in
    rw (fault.1, fault.2)
    (inl (
      NoFit job requests (resume_at c.args.save.now c.args.left_out) save _ asked.ensures.job
          asked.ensures.asked resumed saved
          (rw c.deref.ensures at c.in_err-origin.ensures.cause job requests),
      ap (λ (s : ShelfState). s.files) same,
    ))

pub returns-in_err-intake-clause-cause : goal.returns-in_err-intake-clause-cause
returns-in_err-intake-clause-cause g c resumed =
    let fault =
    err_from_is_err_and c.from_residual-in_err-intake.result
    c.from_residual-in_err-intake.ensures.1 in
    let asked = c.in_ok-job in
    let same = c.in_ok-job-2.ensures.kept ∙ asked.ensures.kept in
    let job = job_view asked.field-0.job.value in
    let save = c.in_ok-job-2.field-0.save.value in
    let saved : IsStreamSaveOf (g.S.Shelf.state c.args.shelf.now).files c.args.save.now job save =
    rw (sym asked.ensures.files) c.in_ok-job-2.ensures.read in
    let job_in : c.into_inner-job.result ≡ asked.field-0.job.value =
    c.into_inner-job.ensures ∙ c.in_ok-job-2.ensures.job in
    rw (fault.1, fault.2)
    (inl (
      unfit c.args.files.now _ _ _ job asked.field-0.file.requests
          (resume_at c.args.save.now c.args.left_out) save asked.ensures.job asked.ensures.asked
          resumed saved (ap (λ (s : ShelfState). s.faults) same) _
          (rw (sym job_in, sym c.into_inner-save.ensures) c.in_err-intake.ensures.fault),
      ap (λ (s : ShelfState). s.files) same,
    ))

pub returns-in_err-intake-2-clause-cause : goal.returns-in_err-intake-2-clause-cause
returns-in_err-intake-2-clause-cause g c resumed =
    let fault =
    err_from_is_err_and c.from_residual-in_err-intake-2.result
    c.from_residual-in_err-intake-2.ensures.1 in
    let same = c.in_ok-job-2.ensures.kept ∙ c.in_ok-job.ensures.kept in
    rw (fault.1, fault.2)
    (inl (
      NoMemory (ap (λ (s : ShelfState). s.faults) same),
      ap (λ (s : ShelfState). s.files) same,
    ))

pub returns-in_err-opened-clause-cause : goal.returns-in_err-opened-clause-cause
returns-in_err-opened-clause-cause g c resumed =
    let fault =
    err_from_is_err_and c.from_residual-in_err-opened.result
    c.from_residual-in_err-opened.ensures.1 in
    let same = c.in_ok-job-2.ensures.kept ∙ c.in_ok-job.ensures.kept in
    rw (fault.1, fault.2)
    (inl (
      NoMemory (ap (λ (s : ShelfState). s.faults) same),
      ap (λ (s : ShelfState). s.files) same,
    ))

pub returns-in_err-cut_files-clause-cause : goal.returns-in_err-cut_files-clause-cause
returns-in_err-cut_files-clause-cause g c resumed =
    let fault =
    err_from_is_err_and c.from_residual-in_err-cut_files.result
    c.from_residual-in_err-cut_files.ensures.1 in
    let same = c.in_ok-job-2.ensures.kept ∙ c.in_ok-job.ensures.kept in
    rw (fault.1, fault.2)
    (inr (
      rw (sym (ap (λ (s : ShelfState). s.faults) same)) c.in_err-cut_files.ensures.cause,
      rw (sym (ap (λ (s : ShelfState). s.files) same)) c.in_err-cut_files.ensures.stopped,
    ))
