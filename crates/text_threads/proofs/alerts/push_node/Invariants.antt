use Rattle.std.proofs.Common.{◌≡◌, ◌++◌, drop}
use Rattle.std.specs.List.{flat_map}
use Rattle.sink_journal.specs.Alerts.{layout, sink_alerts}
use Rattle.text_threads.proofs.alerts.push_node.Given as goal

abbrev pub invariant-loop-journal : goal.invariant-loop-journal
invariant-loop-journal l =
    l.pieces
    ++ flat_map (sink_alerts l.node.name (layout l.columns l.listed))
    (drop l.journal-index l.journals)
    ≡ l.fn.pieces ++ flat_map (sink_alerts l.node.name (layout l.columns l.listed)) l.journals
