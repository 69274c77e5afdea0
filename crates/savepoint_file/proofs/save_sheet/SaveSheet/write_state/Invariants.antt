use Rattle.std.proofs.Common.{◌≡◌, ◌++◌, map}
use Rattle.std.specs.FinMap.{entries}
use Rattle.savepoint.specs.SaveText.{count_record}
use Rattle.sink_journal.specs.Records.{records_text}
use Rattle.savepoint_file.proofs.save_sheet.SaveSheet.write_state.Given as goal

abbrev pub invariant-loop-key : goal.invariant-loop-key
invariant-loop-key l =
    l.self-inside.sheet ++ records_text (map (count_record l.node l.place) l.key-iterator)
    ≡ l.fn.self ++ records_text (map (count_record l.node l.place) (entries l.state))
