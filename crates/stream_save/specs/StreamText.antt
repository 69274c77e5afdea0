-- The text of a stream's savepoint.
use Rattle.std.specs.Prelude.{ℕ, ◌+◌, List, [], ◌∷◌, ◌++◌, codes, decimal}
use Rattle.jobs.specs.JobView.{JobView}
use Rattle.sink_journal.specs.Records.{records_text}
use Rattle.flow_model.specs.Begin.{Begin}
use Rattle.savepoint.specs.SaveText.{count_records}

-- A stream's savepoint: where its run goes on, and how many requests of its file were read. For
-- each accepted request it has the row after which that was issued. The files of the alerts and of
-- the audit count up to these lengths, in bytes.
pub record StreamSave : Type 0 where
  pub start : Begin
  pub read : ℕ
  pub waits : List ℕ
  pub alerts : ℕ
  pub audit : ℕ

-- the first record: what the text is, and all numbers but those of the waits and counts
abbrev pub stream_head : StreamSave → List (List ℕ)
stream_head save =
    codes "fries" ∷ codes "stream"
    ∷ decimal save.start.row ∷ decimal save.start.turned ∷ decimal save.read
    ∷ decimal save.alerts ∷ decimal save.audit ∷ []

-- the record of one wait: the number of the request, and its row
abbrev pub wait_record : ℕ → ℕ → List (List ℕ)
wait_record number row = codes "wait" ∷ decimal number ∷ decimal row ∷ []

-- the records of these waits; the first is of the request with this number
abbrev pub wait_records : ℕ → List ℕ → List (List (List ℕ))
wait_records number [] = []
wait_records number (row ∷ later) = wait_record number row ∷ wait_records (number + 1) later

-- all records: the waits come in the order of the requests, and then the counts
abbrev pub stream_records : JobView → StreamSave → List (List (List ℕ))
stream_records job save =
    stream_head save ∷ (wait_records 1 save.waits ++ count_records job save.start.states)

-- the text of a stream's savepoint: all its records
abbrev pub stream_save_text : JobView → StreamSave → List ℕ
stream_save_text job save = records_text (stream_records job save)
