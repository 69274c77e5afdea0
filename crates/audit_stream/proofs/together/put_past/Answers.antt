use Rattle.std.proofs.Common.{◌∙◌, ◌≡◌, ◌++◌, List, ℕ}
use Rattle.std.specs.List.{concat}
use Rattle.std.proofs.lemmas.Result.{IfOk-weaker}
use Rattle.jobs.specs.Job.{job_view}
use Rattle.sink_journal.specs.Audit.{audit_header}
use Rattle.sink_journal.specs.Records.{record_text}
use Rattle.audit_laws.specs.Fits.{csv_records}
use Rattle.audit_stream.specs.Sorting.{closed_from, group_texts, workers_spelled}
use Rattle.audit_stream.specs.Together.{together}
use Rattle.audit_stream.proofs.ReadingLemmas.{put_back}
use Rattle.audit_stream.proofs.together.put_past.Goals as goal

pub returns : goal.returns
returns c =
    let job = job_view c.args.job.now in
    let bytes = c.args.bytes.now in
    let stop = c.args.stop in
    let h = c.requires in
    IfOk-weaker c.sorted_text.result
    (λ (text : List ℕ). text ≡ record_text audit_header ++ concat (group_texts (workers_spelled job) (closed_from stop h.0)))
    (λ (text : List ℕ). csv_records text ≡ together job (csv_records bytes))
    (λ text made. put_back job bytes text stop h.0 h.1 h.2 made) (c.sorted_text.ensures audit_header h.0 (c.of-records.ensures ∙ h.1))
