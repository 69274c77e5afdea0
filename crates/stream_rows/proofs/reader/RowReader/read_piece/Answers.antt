use Rattle.std.proofs.Common.{◌≡◌, ◌∷◌, rules}
use Rattle.jobs.specs.Job.{job_view}
use Rattle.stream_rows.proofs.ReadLemmas.{HasRead-behind}
use Rattle.stream_rows.proofs.reader.RowReader.read_piece.Goals as goal

pub returns-clause-read : goal.returns-clause-read
returns-clause-read c =
    let text : c.as_slice.result.now ≡ 10 ∷ c.args.piece.now = search rules in
    HasRead-behind (job_view c.args.job.now) c.args.self.now c.read_text-2.new.self
    c.read_text-2.result c.as_slice.result.now c.args.piece.now c.if-not-self.false text
    c.read_text-2.ensures.read
