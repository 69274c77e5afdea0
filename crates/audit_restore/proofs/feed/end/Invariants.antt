use Rattle.jobs.specs.Job.{job_view}
use Rattle.audit_restore.proofs.FeedLemmas.{AreEnded}
use Rattle.audit_restore.proofs.feed.end.Given as goal

abbrev pub invariant-loop-number : goal.invariant-loop-number
invariant-loop-number l = AreEnded (job_view l.setup.job) l.number l.fn.standing l.standing
