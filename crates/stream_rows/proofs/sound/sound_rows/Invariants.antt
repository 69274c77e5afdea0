use Rattle.std.proofs.Common.{◌≡◌, ◌+◌, length}
use Rattle.jobs.specs.Job.{job_view}
use Rattle.stream_rows.specs.Rows.{and_then, sound_rows}
use Rattle.stream_rows.proofs.sound.sound_rows.Given as goal

abbrev pub invariant-loop-number : goal.invariant-loop-number
invariant-loop-number l = record {
  number : l.number ≡ l.fed + 1 + length l.rows;
  left : and_then l.rows (sound_rows (job_view l.job) l.number l.records)
      ≡ sound_rows (job_view l.job) (l.fed + 1) l.fn.records;
}
