use Rattle.std.proofs.Common.{◌≡◌, ◌≤◌, List, length}
use Rattle.jobs.specs.Job.{job_view}
use Rattle.audit_laws.specs.declared.audit.Line.{Line}
use Rattle.audit_laws.specs.Lines.{refusals_in}
use Rattle.audit_laws.specs.Verdict.{AreInShape}
use Rattle.audit_check.proofs.FeedLemmas.{AfterLines, AfterSteps}
use Rattle.audit_check.proofs.feed.check_records.Given as goal

abbrev pub invariant-loop : goal.invariant-loop
invariant-loop l =
    ((lines : List Line) → AreInShape (job_view l.setup.job) l.fn.records lines → AfterLines (job_view l.setup.job) lines l.records l.counter) × (l.counter ≤ length l.refused)

abbrev pub invariant-loop-place : goal.invariant-loop-place
invariant-loop-place l =
    (lines : List Line) → AreInShape (job_view l.setup.job) l.fn.records lines → refusals_in lines ≡ l.refused → AfterSteps (job_view l.setup.job) lines l.records l.wanted l.place
