use Rattle.std.proofs.Common.{◌≡◌, ◌∙◌, ℕ, List, ap, length, map, subst, sym}
use Rattle.std.proofs.lemmas.Result.{err_from_is_err_and}
use Rattle.audit_laws.specs.Fits.{Fits, csv_records}
use Rattle.audit_laws.specs.Verdict.{IsFirstFault}
use Rattle.flow_model.specs.Begin.{at_first}
use Rattle.flow_model.specs.Record.{record_view}
use Rattle.flow_model.specs.Run.{IsRun}
use Rattle.flow_model.specs.Setup.{setup_view}
use Rattle.flow_model.specs.SetupView.{SetupView}
use Rattle.flow_model.specs.Waiting.{waiting_for}
use Rattle.flow_model.specs.declared.record.RunRecord.{RunRecord}
use Rattle.flow_model.specs.declared.setup.Setup.{Setup}
use Rattle.jobs.specs.Job.{job_view}
use Rattle.jobs.specs.Nodes.{AreFromSources}
use Rattle.jobs.specs.declared.job.Job.{Job}
use Rattle.audit_live.specs.Shown.{shown_waits}
use Rattle.fries_lines.specs.Lines.{noted}
use Rattle.sink_journal.specs.declared.journal.Feed.{Feed}
use Rattle.coordinator.specs.Feeding.{issue_rows}
use Rattle.versions.specs.declared.in_order.Refused.{Refused}
use Rattle.versions.specs.declared.request.Request.{Request}
use Rattle.fries_steps.specs.Live.{AreReleased}
use Rattle.fries_steps.specs.Running.{IsRunOf}
use Rattle.fries_steps.specs.SetupFor.{IsSetupFor}
use Rattle.fries_steps.proofs.PartLemmas.{workers_of}
use Rattle.fries_steps.proofs.RunLemmas.{is_run_under}
use Rattle.fries_verify.specs.Audits.{IsFaultOn, IsToldBy, shown_subject}
use Rattle.fries_verify.specs.StreamSetup.{IsStreamRunOf, IsStreamSetupFor}
use Rattle.fries_verify.proofs.LiveLemmas.{setup_waiting, stream_waiting}
use Rattle.fries_verify.proofs.audits.shown_run.Goals as goal

pub returns-in_err-ran-clause-fault : goal.returns-in_err-ran-clause-fault
returns-in_err-ran-clause-fault c =
    let s = c.args.setup in
    let rows = c.args.given.rows.now in
    let told = csv_records c.args.text.now in
    let made = c.with_waits-setup.result in
    let code = c.in_err-ran.field-0.0 in
    let shown : List ℕ = shown_waits (length rows) s.judged.accepted told in
    let waits_are : c.as_slice.result.now ≡ shown =
    c.as_slice.ensures
    ∙ (c.in_ok-waits.ensures
    ∙ ap (λ (a : List Request). shown_waits (length rows) a told) c.as_slice-accepted.ensures) in
    let view_is : setup_view made ≡ waiting_for shown (setup_view s) =
    c.with_waits-setup.ensures.view ∙ ap (λ w. waiting_for w (setup_view s)) waits_are in
    let here : IsFirstFault (at_first (setup_view made)) (setup_view made) made.job.dag.order
    (map noted made.judged.refused) rows told code =
    rw c.in_ok-start.ensures at c.in_err-ran.ensures.fault in
    let seen =
    subst (λ (v : SetupView). IsFirstFault (at_first v) v made.job.dag.order
    (map noted made.judged.refused) rows told code) view_is here in
    let view : SetupView = waiting_for shown (setup_view s) in
    let ordered =
    subst (λ (j : Job). IsFirstFault (at_first view) view j.dag.order (map noted made.judged.refused)
    rows told code) c.with_waits-setup.ensures.job seen in
    let fault : IsFaultOn (shown_subject s rows told) code =
    subst (λ (r : List Refused). IsFirstFault (at_first view) view s.job.dag.order (map noted r) rows
    told code) c.with_waits-setup.ensures.refused ordered in
    let from =
    err_from_is_err_and c.from_residual-in_err-ran.result c.from_residual-in_err-ran.ensures.1 in
    rw (from.1, from.2) fault

pub returns-clause-audited : goal.returns-clause-audited
returns-clause-audited c =
    let s = c.args.setup in
    let rows = c.args.given.rows.now in
    let told = csv_records c.args.text.now in
    let made = c.with_waits-setup.result in
    let ran = c.in_ok-ran.ran in
    let shown : List ℕ = shown_waits (length rows) s.judged.accepted told in
    let waits_are : c.as_slice.result.now ≡ shown =
    c.as_slice.ensures
    ∙ (c.in_ok-waits.ensures
    ∙ ap (λ (a : List Request). shown_waits (length rows) a told) c.as_slice-accepted.ensures) in
    let view_is : setup_view made ≡ waiting_for shown (setup_view s) =
    c.with_waits-setup.ensures.view ∙ ap (λ w. waiting_for w (setup_view s)) waits_are in
    let run : IsRun (setup_view made) rows (record_view ran) =
    rw c.in_ok-start.ensures at c.in_ok-ran.ensures.run in
    let audited : IsToldBy (shown_subject s rows told) (record_view ran) = record {
      run = subst (λ (v : SetupView). IsRun v rows (record_view ran)) view_is run;
      fits =
          subst (λ (r : List Refused). Fits (map noted r) c.args.text.now (record_view ran))
          c.with_waits-setup.ensures.refused c.in_ok-ran.ensures.fits;
    } in
    subst (λ (r : RunRecord). IsToldBy (shown_subject s rows told) (record_view r))
    (sym c.in_ok-done_of.ensures.ran_is) audited

pub returns-clause-only : goal.returns-clause-only
returns-clause-only c = λ other so.
    let s = c.args.setup in
    let rows = c.args.given.rows.now in
    let told = csv_records c.args.text.now in
    let made = c.with_waits-setup.result in
    let shown : List ℕ = shown_waits (length rows) s.judged.accepted told in
    let waits_are : c.as_slice.result.now ≡ shown =
    c.as_slice.ensures
    ∙ (c.in_ok-waits.ensures
    ∙ ap (λ (a : List Request). shown_waits (length rows) a told) c.as_slice-accepted.ensures) in
    let view_is : setup_view made ≡ waiting_for shown (setup_view s) =
    c.with_waits-setup.ensures.view ∙ ap (λ w. waiting_for w (setup_view s)) waits_are in
    let again : IsRun (setup_view made) rows other =
    subst (λ (v : SetupView). IsRun v rows other) (sym view_is) so.run in
    let fits : Fits (map noted made.judged.refused) c.args.text.now other =
    subst (λ (r : List Refused). Fits (map noted r) c.args.text.now other)
    (sym c.with_waits-setup.ensures.refused) so.fits in
    ap record_view c.in_ok-done_of.ensures.ran_is
    ∙ c.in_ok-ran.ensures.only other (rw (← c.in_ok-start.ensures) at again) fits

pub returns-clause-run : goal.returns-clause-run
returns-clause-run c = λ ordered job is.
    let s = c.args.setup in
    let rows = c.args.given.rows.now in
    let made = c.with_waits-setup.result in
    let ran = c.in_ok-ran.ran in
    let of = c.in_ok-done_of.ensures in
    let told = csv_records c.args.text.now in
    let shown : List ℕ = shown_waits (length rows) s.judged.accepted told in
    let waits_are : c.as_slice.result.now ≡ shown =
    c.as_slice.ensures
    ∙ (c.in_ok-waits.ensures
    ∙ ap (λ (a : List Request). shown_waits (length rows) a told) c.as_slice-accepted.ensures) in
    let view_is : setup_view made ≡ waiting_for shown (setup_view s) =
    c.with_waits-setup.ensures.view ∙ ap (λ w. waiting_for w (setup_view s)) waits_are in
    let run : IsRun (setup_view made) rows (record_view ran) =
    rw c.in_ok-start.ensures at c.in_ok-ran.ensures.run in
    let seen : IsRun (waiting_for shown (setup_view s)) rows (record_view ran) =
    subst (λ (v : SetupView). IsRun v rows (record_view ran)) view_is run in
    let live =
    c.runs_that_wait_as_shown_are_live.ensures.live (setup_view s) rows told (record_view ran)
    seen in
    let issued : issue_rows 0 ran.feeds ≡ shown =
    c.runs_that_wait_as_shown_are_live.ensures.waits (setup_view s) rows told (record_view ran)
    seen in
    let setup_is =
    setup_waiting ordered job c.args.given.requests.now (length rows) s made ran.feeds is
    (view_is ∙ ap (λ w. waiting_for w (setup_view s)) (sym issued))
    c.with_waits-setup.ensures.refused live.not_early in
    let feeds_are : c.in_ok-done_of.field-0.ran.feeds ≡ ran.feeds =
    ap (λ (r : RunRecord). r.feeds) of.ran_is in
    subst (λ (fs : List Feed). IsRunOf (AreReleased (length rows) fs) ordered job
    c.args.given.requests.now rows c.in_ok-done_of.field-0) (sym feeds_are)
    (is_run_under (IsSetupFor (AreReleased (length rows) ran.feeds) ordered job
    c.args.given.requests.now) c.args.given.requests.now rows made ran c.in_ok-done_of.field-0
    setup_is
    (record {
      consistent = λ ran. c.runs_are_consistent.ensures rows ran c.are_numbered.ensures;
      prefix = c.ordered_runs_are_serial.ensures.prefix;
      serial = c.ordered_runs_are_serial.ensures.landings;
    })
    (subst (λ (j : Job). AreFromSources (job_view j) rows) (sym c.with_waits-setup.ensures.job)
    c.requires.sources)
    c.in_ok-ran.ensures.same run of)

pub returns-clause-stream : goal.returns-clause-stream
returns-clause-stream c = λ ordered job is.
    let s = c.args.setup in
    let rows = c.args.given.rows.now in
    let made = c.with_waits-setup.result in
    let ran = c.in_ok-ran.ran in
    let of = c.in_ok-done_of.ensures in
    let told = csv_records c.args.text.now in
    let shown : List ℕ = shown_waits (length rows) s.judged.accepted told in
    let waits_are : c.as_slice.result.now ≡ shown =
    c.as_slice.ensures
    ∙ (c.in_ok-waits.ensures
    ∙ ap (λ (a : List Request). shown_waits (length rows) a told) c.as_slice-accepted.ensures) in
    let view_is : setup_view made ≡ waiting_for shown (setup_view s) =
    c.with_waits-setup.ensures.view ∙ ap (λ w. waiting_for w (setup_view s)) waits_are in
    let run : IsRun (setup_view made) rows (record_view ran) =
    rw c.in_ok-start.ensures at c.in_ok-ran.ensures.run in
    let seen : IsRun (waiting_for shown (setup_view s)) rows (record_view ran) =
    subst (λ (v : SetupView). IsRun v rows (record_view ran)) view_is run in
    let live =
    c.runs_that_wait_as_shown_are_live.ensures.live (setup_view s) rows told (record_view ran)
    seen in
    let issued : issue_rows 0 ran.feeds ≡ shown =
    c.runs_that_wait_as_shown_are_live.ensures.waits (setup_view s) rows told (record_view ran)
    seen in
    let setup_is =
    stream_waiting ordered job c.args.given.requests.now (length rows) s made ran.feeds is
    (view_is ∙ ap (λ w. waiting_for w (setup_view s)) (sym issued))
    c.with_waits-setup.ensures.refused live.not_early in
    let feeds_are : c.in_ok-done_of.field-0.ran.feeds ≡ ran.feeds =
    ap (λ (r : RunRecord). r.feeds) of.ran_is in
    subst (λ (fs : List Feed). IsStreamRunOf (AreReleased (length rows) fs) ordered job
    c.args.given.requests.now rows c.in_ok-done_of.field-0) (sym feeds_are)
    (is_run_under (IsStreamSetupFor (AreReleased (length rows) ran.feeds) ordered job
    c.args.given.requests.now) c.args.given.requests.now rows made ran c.in_ok-done_of.field-0
    setup_is
    (record {
      consistent = λ ran. c.runs_are_consistent.ensures rows ran c.are_numbered.ensures;
      prefix = c.ordered_runs_are_serial.ensures.prefix;
      serial = c.ordered_runs_are_serial.ensures.landings;
    })
    (subst (λ (j : Job). AreFromSources (job_view j) rows) (sym c.with_waits-setup.ensures.job)
    c.requires.sources)
    c.in_ok-ran.ensures.same run of)

pub returns-clause-journals : goal.returns-clause-journals
returns-clause-journals c =
    (workers_of _ c.with_waits-setup.result c.args.given.requests.now c.args.given.rows.now
    c.in_ok-ran.ran c.in_ok-done_of.field-0 c.in_ok-ran.ensures.run
    c.in_ok-done_of.ensures).journals

pub returns-clause-refused : goal.returns-clause-refused
returns-clause-refused c =
    ap (λ (r : RunRecord). r.setup.judged.refused) c.in_ok-done_of.ensures.ran_is
    ∙ (ap (λ (s : Setup). s.judged.refused) c.in_ok-ran.ensures.same
    ∙ c.with_waits-setup.ensures.refused)
