use Rattle.std.proofs.Common.{◌≡◌, ◌+◌, ◌*◌, drop}
use Rattle.jobs.specs.Job.{job_view}
use Rattle.versions.specs.Judged.{judged_within}
use Rattle.versions.specs.Young.{IsYoung, judged_on}
use Rattle.versions.proofs.in_order.judge_within.Given as goal

abbrev pub invariant-loop-place : goal.invariant-loop-place
invariant-loop-place l = record {
  young : IsYoung (job_view l.job) l.bench.book ((l.place + 1) * 64);
  rest : judged_on (job_view l.job) l.bench (l.place + 1) (drop l.place l.request-items) ≡ judged_within l.fn.splits (job_view l.job) l.request-items;
}
