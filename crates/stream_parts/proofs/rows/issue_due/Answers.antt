use Rattle.std.proofs.Common.{◌≡◌, ◌∙◌, [], arith, subst, sym}
use Rattle.std.proofs.lemmas.Result.{IfOk-weaker}
use Rattle.stream_run.proofs.GoesLemmas.{goes_booked-same}
use Rattle.stream_parts.specs.InTime.{IssuesFirst}
use Rattle.stream_parts.proofs.TimeLemmas.{after-undue, issues-none, issues-one, left-undue, some-all}
use Rattle.stream_parts.proofs.rows.issue_due.Goals as goal

pub returns-then-has_due-clause-goes : goal.returns-then-has_due-clause-goes
returns-then-has_due-clause-goes g c =
    IfOk-weaker c.run_rows.result _ _ (λ next goes. (goes.0, goes.2)) c.run_rows.ensures.goes

pub returns-then-has_due-clause-issued : goal.returns-then-has_due-clause-issued
returns-then-has_due-clause-issued g c =
    IfOk-weaker c.run_rows.result _ _
    (λ next is. subst (λ k. IssuesFirst c.args.stream k next) (omega arith)
    (issues-one c.accepted_requests_are_in_order.ensures c.args.stream next _ (omega arith) is))
    c.run_rows.ensures.issued

pub returns-then-has_due-clause-none_due : goal.returns-then-has_due-clause-none_due
returns-then-has_due-clause-none_due g c =
    IfOk-weaker c.run_rows.result _ _
    (λ next is. some-all c.args.stream.exact
    (left-undue c.args.stream next _ (omega arith) is)) c.run_rows.ensures.issued

pub returns-else-has_due-clause-goes : goal.returns-else-has_due-clause-goes
returns-else-has_due-clause-goes g c =
    goes_booked-same c.args.call.now.names c.args.stream _ c.args.books.now

pub returns-else-has_due-clause-issued : goal.returns-else-has_due-clause-issued
returns-else-has_due-clause-issued g c = issues-none c.args.stream c.args.stream.start.row

pub returns-else-has_due-clause-none_due : goal.returns-else-has_due-clause-none_due
returns-else-has_due-clause-none_due g c =
    after-undue c.args.stream.exact c.args.stream.start.row c.args.stream.pending
    (sym c.has_due.ensures ∙ c.if-has_due.false)
