use Rattle.std.proofs.Common.{◌≡◌, ◌∷◌, ◌+◌, rules}
use Rattle.jobs.specs.Job.{job_view}
use Rattle.stream_rows.proofs.ReadLemmas.{sound_rows-behind}
use Rattle.stream_rows.proofs.behind.rows_behind.Goals as goal

pub returns : goal.returns
returns c =
    let text : c.as_slice.result.now ≡ 10 ∷ c.args.piece.now = search rules in
    sound_rows-behind (job_view c.args.job.now) (c.args.fed + 1) c.sound_rows.result c.of-records.result
    c.as_slice.result.now c.args.piece.now c.of-records.ensures text c.sound_rows.ensures.sound
