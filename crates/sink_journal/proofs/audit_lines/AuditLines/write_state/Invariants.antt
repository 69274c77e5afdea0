use Rattle.std.proofs.Common.{◌≡◌, ◌++◌, map}
use Rattle.std.specs.FinMap.{entries}
use Rattle.sink_journal.specs.Audit.{state_fields}
use Rattle.sink_journal.specs.Records.{records_text}
use Rattle.sink_journal.proofs.audit_lines.AuditLines.write_state.Given as goal

abbrev pub invariant-loop-key : goal.invariant-loop-key
invariant-loop-key l =
    l.self ++ records_text (map (state_fields l.node l.place) l.key-iterator)
    ≡ l.fn.self ++ records_text (map (state_fields l.node l.place) (entries l.state))
