use Rattle.std.proofs.Common.{◌≡◌, ◌∙◌, false, sym, take, true}
use Rattle.jobs.specs.Job.{job_view}
use Rattle.versions.specs.Judging.{has_fault}
use Rattle.versions.proofs.FirstLemmas.{first_end, first_here, first_more}
use Rattle.versions.proofs.judging.first_with.Goals as goal

pub returns-then-has_fault-clause-first : goal.returns-then-has_fault-clause-first
returns-then-has_fault-clause-first c =
    let found : has_fault c.args.code c.args.book.now (job_view c.args.job.now) (take c.loop-place.place c.args.changes.now) c.index-changes-place.result ≡ true = sym c.has_fault.ensures ∙ c.if-has_fault.true in
    sym (c.loop-place.invariant ∙ first_here c.args.code c.args.book.now (job_view c.args.job.now) c.args.changes.now c.loop-place.place c.index-changes-place.result c.loop-place-test.true c.index-changes-place.is found)

pub loop-place-preserved : goal.loop-place-preserved
loop-place-preserved c =
    let none : has_fault c.args.code c.args.book.now (job_view c.args.job.now) (take c.loop-place.place c.args.changes.now) c.index-changes-place.result ≡ false = sym c.has_fault.ensures ∙ c.if-has_fault.false in
    c.loop-place.invariant ∙ first_more c.args.code c.args.book.now (job_view c.args.job.now) c.args.changes.now c.loop-place.place c.index-changes-place.result c.loop-place-test.true c.index-changes-place.is none

pub returns-clause-first : goal.returns-clause-first
returns-clause-first c = sym (c.loop-place.invariant ∙ first_end c.args.code c.args.book.now (job_view c.args.job.now) c.args.changes.now c.loop-place.place c.loop-place-test.false)
