use Rattle.jobs.specs.Job.{job_view}
use Rattle.audit_restore.proofs.FeedLemmas.{AreFed}
use Rattle.audit_restore.proofs.feed.fed_lanes.Given as goal

abbrev pub invariant-loop-step : goal.invariant-loop-step
invariant-loop-step l = AreFed (job_view l.setup.job) l.rows l.start.turned l.feeds l.step-index l.issued l.standing
