use Rattle.std.proofs.Common.{◌∙◌, ◌+◌, sym, ap, refl, List}
use Rattle.jobs.specs.Job.{job_view}
use Rattle.versions.specs.Judged.{judged_within}
use Rattle.versions.specs.declared.request.Request.{Request}
use Rattle.versions.proofs.JudgedLemmas.{judged_on-end}
use Rattle.versions.proofs.YoungLemmas.{IsYoung-first_book}
use Rattle.versions.proofs.in_order.judge_within.Goals as goal

pub loop-place-init : goal.loop-place-init
loop-place-init c = rw (c.in_ok-of.ensures, c.new.ensures, c.new-2.ensures) record { young = IsYoung-first_book (job_view c.args.job.now) 64; rest = refl }

pub returns : goal.returns
returns c =
    let list = c.as_slice-request-items.result.now in
    sym (judged_on-end (job_view c.args.job.now) c.loop-place.bench list c.loop-place.place (c.loop-place.place + 1) c.loop-place-test.false)
    ∙ (c.loop-place.invariant.rest ∙ ap (λ (x : List Request). judged_within c.args.splits (job_view c.args.job.now) x) c.as_slice-request-items.ensures)
