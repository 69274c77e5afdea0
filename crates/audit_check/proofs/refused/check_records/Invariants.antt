use Rattle.std.proofs.Common.{List}
use Rattle.jobs.specs.Job.{job_view}
use Rattle.audit_laws.specs.declared.audit.Line.{Line}
use Rattle.audit_laws.specs.Verdict.{AreInShape}
use Rattle.audit_check.proofs.RefusedLemmas.{AfterRefused}
use Rattle.audit_check.proofs.refused.check_records.Given as goal

abbrev pub invariant-loop-place : goal.invariant-loop-place
invariant-loop-place l =
    (lines : List Line) → AreInShape (job_view l.setup.job) l.fn.records lines → AfterRefused (job_view l.setup.job) lines l.records l.refused l.place
