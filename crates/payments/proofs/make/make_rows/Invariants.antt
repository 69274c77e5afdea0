use Rattle.std.proofs.Common.{◌≡◌, ◌+◌, ◌-◌, ◌++◌, length}
use Rattle.jobs.specs.Job.{job_view}
use Rattle.payments.specs.Made.{rows_made_from}
use Rattle.payments.proofs.make.make_rows.Given as goal

abbrev pub invariant-loop-row : goal.invariant-loop-row
invariant-loop-row l = record {
  count : length l.made ≡ l.row;
  left : l.made ++ rows_made_from (job_view l.job) l.draws.number (l.row + 1) (l.rows - l.row) ≡ rows_made_from (job_view l.job) l.fn.seed 1 l.rows;
}
