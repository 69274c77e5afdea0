use Rattle.std.proofs.Common.{inr}
use Rattle.std.proofs.lemmas.Result.{err_from_is_err_and}
use Rattle.fries_call.proofs.verify.verified_run.Goals as goal

pub returns-in_err-check_alerts-clause-cause : goal.returns-in_err-check_alerts-clause-cause
returns-in_err-check_alerts-clause-cause g c =
    let unread = rw c.in_ok-done.ensures.kept at c.in_err-check_alerts.ensures.cause in
    let fault = err_from_is_err_and c.from_residual-in_err-check_alerts.result c.from_residual-in_err-check_alerts.ensures.1 in
    rw (fault.1, fault.2) (inr (record {
      done = c.in_ok-done.done;
      restored = c.in_ok-done.ensures.run;
      unread = unread;
    }))

pub returns-clause-run : goal.returns-clause-run
returns-clause-run g c = record {
  restored = c.in_ok-done.ensures.run;
  of_alerts = rw c.in_ok-done.ensures.kept at c.in_ok-check_alerts.ensures.alerts;
}
