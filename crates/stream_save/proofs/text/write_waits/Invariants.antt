use Rattle.std.proofs.Common.{◌≡◌, ◌+◌, ◌++◌, drop}
use Rattle.sink_journal.specs.Records.{records_text}
use Rattle.stream_save.specs.StreamText.{wait_records}
use Rattle.stream_save.proofs.text.write_waits.Given as goal

abbrev pub invariant-loop-place : goal.invariant-loop-place
invariant-loop-place l =
    l.sheet ++ records_text (wait_records (l.place + 1) (drop l.place l.waits))
    ≡ l.fn.sheet ++ records_text (wait_records 1 l.fn.waits)
