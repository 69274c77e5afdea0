use Rattle.std.proofs.Common.{◌∙◌, [], ap, get_or, map}
use Rattle.jobs.specs.Job.{job_view}
use Rattle.audit_laws.specs.Fits.{csv_records}
use Rattle.audit_stream.proofs.PlaceLemmas.{records_listed}
use Rattle.audit_stream.proofs.places.record_places.Goals as goal

pub returns-clause-records : goal.returns-clause-records
returns-clause-records c =
    let records = csv_records c.args.bytes.now in
    ap (map (λ place. get_or records place [])) c.in_ok-places.ensures ∙ records_listed (job_view c.args.job.now) records
