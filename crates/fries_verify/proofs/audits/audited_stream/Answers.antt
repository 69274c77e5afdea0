use Rattle.std.proofs.Common.{◌≡◌, ◌∙◌, ℕ, List, ap, subst, sym}
use Rattle.std.proofs.lemmas.Result.{err_from_is_err_and}
use Rattle.audit_laws.specs.Fits.{csv_records}
use Rattle.audit_parts.specs.Cut.{parts_of}
use Rattle.flow_model.specs.Record.{record_view}
use Rattle.flow_model.specs.Run.{Ran}
use Rattle.flow_model.specs.SetupView.{SetupView}
use Rattle.jobs.specs.Job.{job_view}
use Rattle.jobs.specs.JobView.{JobView}
use Rattle.jobs.specs.Nodes.{AreFromSources}
use Rattle.payments.specs.World.{ShelfState}
use Rattle.audit_stream.specs.Together.{together}
use Rattle.stream_replay.specs.InParts.{given_in_parts}
use Rattle.fries_verify.specs.Audits.{IsFaultOn, IsToldBy, given_in, shown_subject}
use Rattle.fries_verify.specs.Audits.{stream_subject}
use Rattle.fries_verify.proofs.AgainLemmas.{journals_again, record_again, run_again}
use Rattle.fries_verify.proofs.LiveLemmas.{audited_for, refused_for}
use Rattle.fries_verify.proofs.PartLemmas.{given_same, loose_refused, parts_for, told_joined}
use Rattle.fries_verify.proofs.PartLemmas.{told_stream}
use Rattle.fries_verify.proofs.audits.audited_stream.Goals as goal

pub returns-in_err-text-clause-cause : goal.returns-in_err-text-clause-cause
returns-in_err-text-clause-cause g c =
    let s = c.args.setup in
    let rows = c.args.given.rows.now in
    let bytes = c.in_ok-bytes.bytes in
    let code = c.in_err-text.field-0.0 in
    let fault : IsFaultOn (stream_subject s rows bytes) code =
    c.in_err-text.ensures.fault (stream_subject s rows bytes)
    (ap (λ (b : List ℕ). together (job_view s.job) (csv_records b)) (sym c.as_slice.ensures)) in
    let from =
    err_from_is_err_and c.from_residual-in_err-text.result c.from_residual-in_err-text.ensures.1 in
    rw (from.1, from.2)
    (refused_for (stream_subject s rows) (g.S.Shelf.state c.args.shelf.now).files
    c.args.given.audit.now bytes _ _ code c.in_ok-bytes.ensures.bytes fault
    (ap (λ (t : ShelfState). t.faults) c.in_ok-bytes.ensures.kept))

pub returns-in_err-done-clause-cause : goal.returns-in_err-done-clause-cause
returns-in_err-done-clause-cause g c =
    let s = c.args.setup in
    let rows = c.args.given.rows.now in
    let bytes = c.in_ok-bytes.bytes in
    let code = c.in_err-done.field-0.0 in
    let same : csv_records c.as_slice-2.result.now ≡ together (job_view s.job) (csv_records bytes) =
    ap csv_records c.as_slice-2.ensures
    ∙ (c.in_ok-text.ensures.text
    ∙ ap (λ (b : List ℕ). together (job_view s.job) (csv_records b)) c.as_slice.ensures) in
    let fault : IsFaultOn (stream_subject s rows bytes) code =
    subst (λ (rs : List (List (List ℕ))). IsFaultOn (shown_subject s rows rs) code) same
    c.in_err-done.ensures.fault in
    let from =
    err_from_is_err_and c.from_residual-in_err-done.result c.from_residual-in_err-done.ensures.1 in
    rw (from.1, from.2)
    (refused_for (stream_subject s rows) (g.S.Shelf.state c.args.shelf.now).files
    c.args.given.audit.now bytes _ _ code c.in_ok-bytes.ensures.bytes fault
    (ap (λ (t : ShelfState). t.faults) c.in_ok-bytes.ensures.kept))

pub in_parts-requires : goal.in_parts-requires
in_parts-requires g c =
    let job_is = ap (λ (v : SetupView). v.job) c.in_ok-done.ensures.audited.run.setup_is in
    subst (λ (j : JobView). AreFromSources j c.args.given.rows.now) (sym job_is) c.requires.sources

pub returns-in_err-in_parts-clause-cause : goal.returns-in_err-in_parts-clause-cause
returns-in_err-in_parts-clause-cause g c =
    let s = c.args.setup in
    let rows = c.args.given.rows.now in
    let bytes = c.in_ok-bytes.bytes in
    let done = c.in_ok-done.done in
    let same : csv_records c.as_slice-2.result.now ≡ together (job_view s.job) (csv_records bytes) =
    ap csv_records c.as_slice-2.ensures
    ∙ (c.in_ok-text.ensures.text
    ∙ ap (λ (b : List ℕ). together (job_view s.job) (csv_records b)) c.as_slice.ensures) in
    let told : IsToldBy (stream_subject s rows bytes) (record_view done.ran) =
    told_stream s rows bytes (record_view done.ran)
    (subst (λ (rs : List (List (List ℕ))). IsToldBy (shown_subject s rows rs)
    (record_view done.ran)) same c.in_ok-done.ensures.audited) in
    let given_is : given_in_parts done.ran.setup rows ≡ given_in (stream_subject s rows bytes) =
    given_same done.ran.setup s rows bytes told.run.setup_is c.in_ok-done.ensures.refused in
    let from =
    err_from_is_err_and c.from_residual-in_err-in_parts.result
    c.from_residual-in_err-in_parts.ensures.1 in
    rw (from.1, from.2)
    (loose_refused (stream_subject s rows) (given_in_parts done.ran.setup rows)
    (csv_records c.as_slice-3.result.now) (g.S.Shelf.state c.args.shelf.now).files
    c.args.given.audit.now bytes _ _ (record_view done.ran) c.in_err-in_parts.field-0.0 given_is
    (ap (λ (b : List ℕ). parts_of (csv_records b)) (sym c.as_slice-3.ensures))
    c.in_ok-bytes.ensures.bytes told c.in_err-in_parts.ensures.loose
    (ap (λ (t : ShelfState). t.faults) c.in_ok-bytes.ensures.kept))

pub returns-clause-audited : goal.returns-clause-audited
returns-clause-audited g c =
    let s = c.args.setup in
    let rows = c.args.given.rows.now in
    let bytes = c.in_ok-bytes.bytes in
    let done = c.in_ok-done.done in
    let last = c.in_ok-in_parts.field-0 in
    let again = c.in_ok-in_parts.ensures.again in
    let same : csv_records c.as_slice-2.result.now ≡ together (job_view s.job) (csv_records bytes) =
    ap csv_records c.as_slice-2.ensures
    ∙ (c.in_ok-text.ensures.text
    ∙ ap (λ (b : List ℕ). together (job_view s.job) (csv_records b)) c.as_slice.ensures) in
    let told : IsToldBy (stream_subject s rows bytes) (record_view done.ran) =
    told_stream s rows bytes (record_view done.ran)
    (subst (λ (rs : List (List (List ℕ))). IsToldBy (shown_subject s rows rs)
    (record_view done.ran)) same c.in_ok-done.ensures.audited) in
    let given_is : given_in_parts done.ran.setup rows ≡ given_in (stream_subject s rows bytes) =
    given_same done.ran.setup s rows bytes told.run.setup_is c.in_ok-done.ensures.refused in
    audited_for (stream_subject s rows) (g.S.Shelf.state c.args.shelf.now).files
    c.args.given.audit.now bytes last c.in_ok-bytes.ensures.bytes
    (record {
      told =
          subst (λ (r : Ran). IsToldBy (stream_subject s rows bytes) r)
          (sym (record_again done last again)) told;
      in_parts =
          parts_for (stream_subject s rows bytes) (given_in_parts done.ran.setup rows)
          (csv_records c.as_slice-3.result.now) given_is
          (ap (λ (b : List ℕ). parts_of (csv_records b)) (sym c.as_slice-3.ensures))
          c.in_ok-in_parts.ensures.parts;
    })
    (λ ran so.
    record_again done last again
    ∙ c.in_ok-done.ensures.only ran
    (subst (λ (rs : List (List (List ℕ))). IsToldBy (shown_subject s rows rs) ran) (sym same)
    (told_joined s rows bytes ran so.told)))

pub returns-clause-run : goal.returns-clause-run
returns-clause-run g c = λ ordered job is.
    run_again c.in_ok-done.done c.in_ok-in_parts.field-0 c.in_ok-in_parts.ensures.again
    c.args.given.rows.now ordered job c.args.given.requests.now
    (c.in_ok-done.ensures.stream ordered job is)

pub returns-clause-journals : goal.returns-clause-journals
returns-clause-journals g c =
    journals_again c.in_ok-done.done c.in_ok-in_parts.field-0 c.in_ok-in_parts.ensures.again
    c.in_ok-done.ensures.journals
