use Rattle.std.proofs.Common.{◌≡◌, ◌++◌, drop}
use Rattle.sink_journal.specs.Alerts.{sink_alerts}
use Rattle.sink_journal.specs.Records.{records_text}
use Rattle.sink_journal.proofs.alerts.write_sink.Given as goal

abbrev pub invariant-loop-entry : goal.invariant-loop-entry
invariant-loop-entry l = l.lines ++ records_text (sink_alerts l.name l.layout (drop l.entry-index l.fn.steps)) ≡ l.fn.lines ++ records_text (sink_alerts l.name l.layout l.fn.steps)
