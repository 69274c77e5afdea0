use Rattle.std.proofs.Common.{refl}
use Rattle.std.proofs.lemmas.Result.{IfOk-weaker}
use Rattle.jobs.specs.Job.{job_view}
use Rattle.row_threads.proofs.CutLemmas.{first_read}
use Rattle.row_threads.proofs.shares.first_rows.Goals as goal

pub returns : goal.returns
returns c =
    let job = job_view c.args.job.now in
    first_read job c.args.text.now c.read.result
    (IfOk-weaker c.read.result _ _ (λ sound after. after 0 _ (c.new-reader.ensures.read job) refl)
    c.read.ensures.rows)
