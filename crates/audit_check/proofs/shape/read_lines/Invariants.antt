use Rattle.std.proofs.Common.{◌∷◌, length}
use Rattle.jobs.specs.Job.{job_view}
use Rattle.sink_journal.specs.Audit.{audit_header}
use Rattle.flow_model.specs.Workers.{workers_in}
use Rattle.audit_check.specs.Reading.{AreRead}
use Rattle.audit_check.specs.Telling.{Tells}
use Rattle.audit_check.proofs.shape.read_lines.Given as goal

abbrev pub invariant-loop-number : goal.invariant-loop-number
invariant-loop-number l =
    (read : AreRead (job_view l.setup.job) (audit_header ∷ l.fn.records) l.records l.number l.group)
    × Tells (length (workers_in (job_view l.setup.job))) read.above l.told
