use Rattle.std.proofs.Common.{◌≡◌, ◌++◌, drop}
use Rattle.sink_journal.specs.Records.{records_text}
use Rattle.savepoint_file.specs.ByNode.{node_records}
use Rattle.savepoint_file.proofs.save_sheet.SaveSheet.write_node.Given as goal

abbrev pub invariant-loop-place : goal.invariant-loop-place
invariant-loop-place l =
    l.self ++ records_text (node_records l.node l.place (drop l.place l.states))
    ≡ l.fn.self ++ records_text (node_records l.node 0 l.states)
