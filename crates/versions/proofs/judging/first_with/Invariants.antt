use Rattle.std.proofs.Common.{◌≡◌, drop, take, []}
use Rattle.jobs.specs.Job.{job_view}
use Rattle.versions.specs.Judging.{first_with}
use Rattle.versions.proofs.judging.first_with.Given as goal

abbrev pub invariant-loop-place : goal.invariant-loop-place
invariant-loop-place l = first_with l.code l.book (job_view l.job) [] l.changes ≡ first_with l.code l.book (job_view l.job) (take l.place l.changes) (drop l.place l.changes)
