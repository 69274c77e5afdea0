use Rattle.std.proofs.Common.{◌≡◌, ◌∙◌, ℕ, List, ap, subst, sym}
use Rattle.std.proofs.lemmas.Result.{err_from_is_err_and}
use Rattle.audit_laws.specs.Fits.{csv_records}
use Rattle.flow_model.specs.Record.{record_view}
use Rattle.payments.specs.World.{ShelfState}
use Rattle.fries_verify.specs.Audits.{IsFaultOn, IsToldBy, live_subject, shown_subject}
use Rattle.fries_verify.proofs.LiveLemmas.{audited_for, refused_for}
use Rattle.fries_verify.proofs.audits.audited_live_run.Goals as goal

pub returns-in_err-shown_run-clause-cause : goal.returns-in_err-shown_run-clause-cause
returns-in_err-shown_run-clause-cause g c =
    let s = c.args.setup in
    let rows = c.args.given.rows.now in
    let bytes = c.in_ok-bytes.bytes in
    let code = c.in_err-shown_run.field-0.0 in
    let fault : IsFaultOn (live_subject s rows bytes) code =
    subst (λ (b : List ℕ). IsFaultOn (shown_subject s rows (csv_records b)) code) c.as_slice.ensures
    c.in_err-shown_run.ensures.fault in
    let from =
    err_from_is_err_and c.from_residual-in_err-shown_run.result
    c.from_residual-in_err-shown_run.ensures.1 in
    rw (from.1, from.2)
    (refused_for (live_subject s rows) (g.S.Shelf.state c.args.shelf.now).files
    c.args.given.audit.now bytes _ _ code c.in_ok-bytes.ensures.bytes fault
    (ap (λ (t : ShelfState). t.faults) c.in_ok-bytes.ensures.kept))

pub returns-clause-audited : goal.returns-clause-audited
returns-clause-audited g c =
    let s = c.args.setup in
    let rows = c.args.given.rows.now in
    let bytes = c.in_ok-bytes.bytes in
    let done = c.in_ok-shown_run.field-0 in
    audited_for (live_subject s rows) (g.S.Shelf.state c.args.shelf.now).files
    c.args.given.audit.now bytes done c.in_ok-bytes.ensures.bytes
    (record {
      told =
          subst (λ (b : List ℕ). IsToldBy (shown_subject s rows (csv_records b))
          (record_view done.ran)) c.as_slice.ensures c.in_ok-shown_run.ensures.audited;
      in_parts = tt;
    })
    (λ ran so.
    c.in_ok-shown_run.ensures.only ran
    (subst (λ (b : List ℕ). IsToldBy (shown_subject s rows (csv_records b)) ran)
    (sym c.as_slice.ensures) so.told))
