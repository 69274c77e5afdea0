use Rattle.std.proofs.Common.{◌<◌, ◌≤◌, ◌*◌, length, rules}
use Rattle.csv.specs.Reading.{default_config, records, strip_bom}
use Rattle.jobs.specs.Job.{job_view}
use Rattle.jobs.specs.Weights.{weight}
use Rattle.payments.specs.Reading.{work_max}
use Rattle.row_threads.specs.inner.Joined.{first_of}
use Rattle.row_threads.specs.inner.Shares.{AreReads}
use Rattle.row_threads.proofs.FileLemmas.{file_sources, file_texts}
use Rattle.row_threads.proofs.JoinLemmas.{file_of}
use Rattle.row_threads.proofs.read.read_shares.Goals as goal

pub returns-clause-ok : goal.returns-clause-ok
returns-clause-ok g c =
    let job = job_view c.args.job.now in
    let rows = c.in_ok-rows.rows in
    let reads = c.in_ok-reads.reads.items in
    let are : AreReads job c.args.bytes.now reads = search rules in
    let some : 0 < length (first_of reads) = search rules in
    let light : length rows * weight job ≤ work_max = search rules in
    file_of job c.args.bytes.now reads rows are c.in_ok-rows.ensures.sound
    c.in_ok-rows.ensures.rows some light

pub returns-clause-sources : goal.returns-clause-sources
returns-clause-sources g c =
    file_sources (job_view c.args.job.now) (records default_config (strip_bom c.args.bytes.now))
    c.in_ok-rows.rows (returns-clause-ok g c)

pub returns-clause-texts : goal.returns-clause-texts
returns-clause-texts g c =
    file_texts (job_view c.args.job.now) (records default_config (strip_bom c.args.bytes.now))
    c.in_ok-rows.rows (returns-clause-ok g c)
