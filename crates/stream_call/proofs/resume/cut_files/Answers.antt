use Rattle.std.proofs.Common.{sym}
use Rattle.std.proofs.lemmas.Result.{IfErr-weaker, err_from_is_err_and, on_err_weaker}
use Rattle.stream_call.specs.Unopened.{Cut, Nothing}
use Rattle.stream_call.proofs.UnopenedLemmas.{uncut-alerts, uncut-audit}
use Rattle.stream_call.proofs.resume.cut_files.Goals as goal

pub returns-in_err-cut_file-clause-stopped : goal.returns-in_err-cut_file-clause-stopped
returns-in_err-cut_file-clause-stopped g c =
    let fault = err_from_is_err_and c.from_residual.result c.from_residual.ensures.1 in
    rw fault.1 (Nothing c.in_err-cut_file.ensures.as_before)

pub returns-in_err-cut_file-clause-cause : goal.returns-in_err-cut_file-clause-cause
returns-in_err-cut_file-clause-cause g c =
    let fault = err_from_is_err_and c.from_residual.result c.from_residual.ensures.1 in
    rw (fault.1, fault.2)
    (uncut-alerts c.args.files.now _ _ _ c.args.origin.alerts _ c.in_err-cut_file.ensures.cause)

pub returns-clause-stopped : goal.returns-clause-stopped
returns-clause-stopped g c =
    on_err_weaker c.cut_file-2.result
    (λ same. rw same (Cut c.args.origin.alerts c.in_ok-cut_file.ensures.cut))
    c.cut_file-2.ensures.as_before

pub returns-clause-cause : goal.returns-clause-cause
returns-clause-cause g c =
    IfErr-weaker c.cut_file-2.result _ _
    (λ why is. rw (sym c.in_ok-cut_file.ensures.faults)
    (uncut-audit c.args.files.now _ _ _ c.args.origin.audit why is)) c.cut_file-2.ensures.cause
