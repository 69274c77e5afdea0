use Rattle.std.proofs.Common.{◌≡◌, ◌∙◌, ℕ, List, ap, inl, inr, refl}
use Rattle.std.proofs.lemmas.Result.{err_from_is_err_and}
use Rattle.sink_journal.specs.declared.audit.Noted.{Noted}
use Rattle.flow_model.specs.Record.{record_view}
use Rattle.stream_run.specs.Files.{audit_text}
use Rattle.stream_parts.proofs.EndLemmas.{grow-same}
use Rattle.stream_parts.proofs.end.end_stream.Goals as goal

pub returns-in_err-ran-clause-stopped : goal.returns-in_err-ran-clause-stopped
returns-in_err-ran-clause-stopped g c =
    let fault = err_from_is_err_and c.from_residual.result c.from_residual.ensures.1 in
    rw fault.1 (inl refl)

pub returns-in_err-texts-clause-stopped : goal.returns-in_err-texts-clause-stopped
returns-in_err-texts-clause-stopped g c =
    let fault =
    err_from_is_err_and c.from_residual-in_err-texts.result
    c.from_residual-in_err-texts.ensures.1 in
    rw fault.1 (inl refl)

pub returns-in_err-append_part-clause-stopped : goal.returns-in_err-append_part-clause-stopped
returns-in_err-append_part-clause-stopped g c =
    let fault =
    err_from_is_err_and c.from_residual-in_err-append_part.result
    c.from_residual-in_err-append_part.ensures.1 in
    let names = c.args.call.now.names in
    let left = record_view c.in_ok-ran.ran in
    let refused = c.args.books.now.refused.items in
    let audit_is : c.in_ok-texts.texts.audit ≡ audit_text refused left =
    c.in_ok-texts.ensures.audit
    ∙ ap (λ (noted : List Noted). audit_text noted left) c.as_slice.ensures.value in
    rw fault.1
    (inr (record {
      setup = c.in_ok-ran.ran.setup;
      left = left;
      run = c.in_ok-ran.ensures.run;
      grow = grow-same names _ _ _ _ _ _ c.in_ok-texts.ensures.alerts audit_is
          c.in_err-append_part.ensures.stopped;
    }))

pub returns-in_err-append_part-clause-cause : goal.returns-in_err-append_part-clause-cause
returns-in_err-append_part-clause-cause g c =
    let fault =
    err_from_is_err_and c.from_residual-in_err-append_part.result
    c.from_residual-in_err-append_part.ensures.1 in
    rw (fault.1, fault.2) c.in_err-append_part.ensures.cause
