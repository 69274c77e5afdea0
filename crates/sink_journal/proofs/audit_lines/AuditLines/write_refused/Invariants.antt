use Rattle.std.proofs.Common.{◌≡◌, ◌++◌, drop, map}
use Rattle.sink_journal.specs.Audit.{refused_fields}
use Rattle.sink_journal.specs.Records.{records_text}
use Rattle.sink_journal.proofs.audit_lines.AuditLines.write_refused.Given as goal

abbrev pub invariant-loop-noted : goal.invariant-loop-noted
invariant-loop-noted l = l.self ++ records_text (map refused_fields (drop l.noted-index l.refused)) ≡ l.fn.self ++ records_text (map refused_fields l.refused)
