use Rattle.audit_laws.specs.Fits.{csv_records}
use Rattle.audit_parts.specs.Cut.{parts_of}
use Rattle.jobs.specs.Job.{job_view}
use Rattle.audit_stream.specs.Together.{together}
use Rattle.fries_verify.proofs.laws.stream_texts_have_one_verdict.Goals as goal

pub returns : goal.returns
returns c =
    c.shown_texts_have_one_verdict.ensures
    (λ bytes. together (job_view c.args.setup.now.job) (csv_records bytes))
    (λ bytes. parts_of (csv_records bytes))
