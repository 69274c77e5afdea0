use Rattle.std.proofs.Common.{◌≡◌, ◌++◌, drop}
use Rattle.sink_journal.specs.Audit.{workers_records}
use Rattle.sink_journal.specs.Records.{records_text}
use Rattle.sink_journal.proofs.audit_lines.AuditLines.write_node.Given as goal

abbrev pub invariant-loop-place : goal.invariant-loop-place
invariant-loop-place l =
    l.self ++ records_text (workers_records l.node l.place (drop l.place l.journals) (drop l.place l.states))
    ≡ l.fn.self ++ records_text (workers_records l.node 0 l.journals l.states)
