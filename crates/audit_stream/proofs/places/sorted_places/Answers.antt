use Rattle.std.proofs.Common.{◌≡◌, ◌∙◌, ◌∷◌, ap₂, subst, sym, List, ℕ}
use Rattle.std.specs.List.{concat}
use Rattle.std.proofs.lemmas.Result.{IfOk-weaker}
use Rattle.csv.specs.Records.{fields_of}
use Rattle.jobs.specs.Job.{job_view}
use Rattle.audit_stream.specs.Sorting.{AreDistinct, SpelledWorker, place_lists, workers_spelled}
use Rattle.audit_stream.proofs.WorkerLemmas.{are_distinct}
use Rattle.audit_stream.proofs.SortLemmas.{body_is}
use Rattle.audit_stream.proofs.places.sorted_places.Goals as goal

pub places_by-requires : goal.places_by-requires
places_by-requires c = subst AreDistinct (sym (c.as_slice.ensures ∙ c.in_ok-workers.ensures)) (are_distinct (job_view c.args.job.now) c.args.job.now.lawful)

pub returns : goal.returns
returns c first body e =
    let stop = c.args.stop in
    let places_of : List SpelledWorker → List (List (List ℕ)) → List ℕ = λ workers rows. 0 ∷ concat (place_lists workers stop rows) in
    let all = c.as_slice.ensures ∙ c.in_ok-workers.ensures in
    let left = body_is c.in_ok-_header._header c.args.records.now c.next.new.self (fields_of c.next.new.cells) first body c.in_ok-_header.ensures e in
    IfOk-weaker c.places_by.result
    (λ (places : List ℕ). places ≡ places_of c.as_slice.result.now c.next.new.self) (λ (places : List ℕ). places ≡ places_of (workers_spelled (job_view c.args.job.now)) body)
    (λ places made. made ∙ ap₂ places_of all left) c.places_by.ensures
