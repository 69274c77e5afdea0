use Rattle.std.proofs.Common.{◌∙◌, ◌≡◌, ◌∷◌, ap, List, ℕ}
use Rattle.std.specs.List.{concat}
use Rattle.std.proofs.lemmas.Result.{IfOk-weaker}
use Rattle.jobs.specs.Job.{job_view}
use Rattle.sink_journal.specs.Audit.{audit_header}
use Rattle.audit_laws.specs.Fits.{csv_records}
use Rattle.audit_stream.specs.Places.{places_together}
use Rattle.audit_stream.specs.Sorting.{place_lists, workers_spelled}
use Rattle.audit_stream.proofs.PlaceLemmas.{places_so}
use Rattle.audit_stream.proofs.places.places_past.Goals as goal

pub returns : goal.returns
returns c =
    let job = job_view c.args.job.now in
    let records = csv_records c.args.bytes.now in
    let stop = c.args.stop in
    let h = c.requires in
    IfOk-weaker c.sorted_places.result
    (λ (places : List ℕ). places ≡ 0 ∷ concat (place_lists (workers_spelled job) stop h.0)) (λ (places : List ℕ). places ≡ places_together job records)
    (λ places made. made ∙ (ap (λ s. 0 ∷ concat (place_lists (workers_spelled job) s h.0)) h.2 ∙ places_so job records audit_header h.0 h.1))
    (c.sorted_places.ensures audit_header h.0 (c.of-records.ensures ∙ h.1))
