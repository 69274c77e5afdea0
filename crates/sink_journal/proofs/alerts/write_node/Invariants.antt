use Rattle.std.proofs.Common.{◌≡◌, ◌++◌, drop}
use Rattle.std.specs.List.{flat_map}
use Rattle.sink_journal.specs.Alerts.{sink_alerts}
use Rattle.sink_journal.specs.Records.{records_text}
use Rattle.sink_journal.proofs.alerts.write_node.Given as goal

abbrev pub invariant-loop-journal : goal.invariant-loop-journal
invariant-loop-journal l =
    l.lines ++ records_text (flat_map (sink_alerts l.node.name l.layout.items) (drop l.journal-index l.journals))
    ≡ l.fn.lines ++ records_text (flat_map (sink_alerts l.node.name l.layout.items) l.journals)
