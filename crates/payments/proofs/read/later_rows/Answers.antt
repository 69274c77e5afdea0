use Rattle.std.proofs.Common.{◌∙◌, arith, sym}
use Rattle.std.proofs.lemmas.Result.{err_from_is_err_and}
use Rattle.std.proofs.lemmas.List.{length-append}
use Rattle.csv.specs.Records.{fields_of}
use Rattle.jobs.specs.Job.{job_view}
use Rattle.payments.proofs.LimitLemmas.{HaveShortTexts-rows_from, work-rows_from}
use Rattle.payments.proofs.RowLemmas.{AreFromSources-rows_from, rows_from-end, rows_from-fault, rows_from-ok}
use Rattle.payments.proofs.read.later_rows.Goals as goal

pub returns-then-not-branch-clause-ok : goal.returns-then-not-branch-clause-ok
returns-then-not-branch-clause-ok c =
    let none = rw c.if-not-branch.true at c.in_ok-next.ensures in
    sym c.loop-number.invariant.left ∙ rows_from-end (job_view c.args.job.now) c.loop-number.number c.loop-number.records c.loop-number.rows none

pub returns-then-not-branch-clause-sources : goal.returns-then-not-branch-clause-sources
returns-then-not-branch-clause-sources c = AreFromSources-rows_from (job_view c.args.job.now) 1 c.args.records.now c.loop-number.rows (returns-then-not-branch-clause-ok c)

pub returns-then-not-branch-clause-work : goal.returns-then-not-branch-clause-work
returns-then-not-branch-clause-work c = work-rows_from (job_view c.args.job.now) c.args.records.now c.loop-number.rows (returns-then-not-branch-clause-ok c)

pub returns-then-not-branch-clause-texts : goal.returns-then-not-branch-clause-texts
returns-then-not-branch-clause-texts c = HaveShortTexts-rows_from (job_view c.args.job.now) 1 c.args.records.now c.loop-number.rows (returns-then-not-branch-clause-ok c)

pub returns-in_err-row_of-clause-fault : goal.returns-in_err-row_of-clause-fault
returns-in_err-row_of-clause-fault c =
    let p = err_from_is_err_and c.from_residual-in_err-row_of.result c.from_residual-in_err-row_of.ensures.1 in
    let first = rw c.if-not-branch.false at c.in_ok-next.ensures in
    rw (p.1, p.2) (λ other.
    sym c.loop-number.invariant.left
    ∙ rows_from-fault (job_view c.args.job.now) c.loop-number.number c.loop-number.records c.next.new.self (fields_of c.next.new.cells) c.loop-number.rows _ first (c.in_err-row_of.ensures.fault other))

pub loop-number-preserved : goal.loop-number-preserved
loop-number-preserved c =
    let inv = c.loop-number.invariant in
    let first = rw c.if-not-branch.false at c.in_ok-next.ensures in
    let step = rows_from-ok (job_view c.args.job.now) c.loop-number.number c.loop-number.records c.next.new.self (fields_of c.next.new.cells) c.loop-number.rows c.in_ok-row_of.field-0 first c.in_ok-row_of.ensures.ok in
    rw c.in_ok-push.ensures.ok (record { number = simp length-append (omega (arith, inv.number)); left = step ∙ inv.left })
