use Rattle.std.proofs.Common.{◌≡◌, ◌++◌, drop, map}
use Rattle.sink_journal.specs.Audit.{entry_fields}
use Rattle.sink_journal.specs.Records.{records_text}
use Rattle.sink_journal.proofs.audit_lines.AuditLines.write_journal.Given as goal

abbrev pub invariant-loop-entry : goal.invariant-loop-entry
invariant-loop-entry l =
    l.self ++ records_text (map (entry_fields l.front.node.now l.front.place) (drop l.entry-index l.journal))
    ≡ l.fn.self ++ records_text (map (entry_fields l.front.node.now l.front.place) l.journal)
