use Rattle.std.proofs.Common.{rules}
use Rattle.sink_journal.proofs.FieldLemmas.{header-text}
use Rattle.sink_journal.proofs.audit_lines.AuditLines.write_header.Goals as goal

pub returns : goal.returns
returns c = rw header-text (search rules)
