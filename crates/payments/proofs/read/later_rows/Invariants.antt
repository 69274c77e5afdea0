use Rattle.std.proofs.Common.{◌≡◌, ◌+◌, length}
use Rattle.jobs.specs.Job.{job_view}
use Rattle.payments.specs.Reading.{rows_from}
use Rattle.payments.proofs.Rest.{after}
use Rattle.payments.proofs.read.later_rows.Given as goal

abbrev pub invariant-loop-number : goal.invariant-loop-number
invariant-loop-number l = record {
  number : l.number ≡ length l.rows + 1;
  left : after l.rows (rows_from (job_view l.job) l.number l.records) ≡ rows_from (job_view l.job) 1 l.fn.records;
}
