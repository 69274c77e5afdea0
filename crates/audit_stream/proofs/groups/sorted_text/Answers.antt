use Rattle.std.proofs.Common.{◌≡◌, ◌∙◌, ◌++◌, ap₂, subst, sym, List, ℕ}
use Rattle.std.specs.List.{concat}
use Rattle.std.proofs.lemmas.Result.{IfOk-weaker}
use Rattle.csv.specs.Records.{fields_of}
use Rattle.jobs.specs.Job.{job_view}
use Rattle.sink_journal.specs.Audit.{audit_header}
use Rattle.sink_journal.specs.Records.{record_text}
use Rattle.audit_stream.specs.Sorting.{AreDistinct, SpelledWorker, closed_from, group_texts, workers_spelled}
use Rattle.audit_stream.proofs.WorkerLemmas.{are_distinct}
use Rattle.audit_stream.proofs.SortLemmas.{body_is}
use Rattle.audit_stream.proofs.groups.sorted_text.Goals as goal

pub text_by-requires : goal.text_by-requires
text_by-requires c = subst AreDistinct (sym (c.as_slice.ensures ∙ c.in_ok-workers.ensures)) (are_distinct (job_view c.args.job.now) c.args.job.now.lawful)

pub returns : goal.returns
returns c first body e =
    let stop = c.args.stop in
    let text_by : List SpelledWorker → List (List (List ℕ)) → List ℕ = λ workers rows. record_text audit_header ++ concat (group_texts workers (closed_from stop rows)) in
    let all = c.as_slice.ensures ∙ c.in_ok-workers.ensures in
    let left = body_is c.in_ok-_header._header c.args.records.now c.next.new.self (fields_of c.next.new.cells) first body c.in_ok-_header.ensures e in
    IfOk-weaker c.text_by.result
    (λ (text : List ℕ). text ≡ text_by c.as_slice.result.now c.next.new.self) (λ (text : List ℕ). text ≡ text_by (workers_spelled (job_view c.args.job.now)) body)
    (λ text made. made ∙ ap₂ text_by all left) c.text_by.ensures
