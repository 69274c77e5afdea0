use Rattle.std.proofs.Common.{rules, codes, decimal, refl}
use Rattle.sink_journal.proofs.FieldLemmas.{fed-text, stopped-text}
use Rattle.sink_journal.proofs.audit_lines.AuditLines.write_feed.Goals as goal

pub returns-in-Stopped : goal.returns-in-Stopped
returns-in-Stopped c = rw (c.in-Stopped.is, stopped-text) (search rules)

pub returns-in-Fed : goal.returns-in-Fed
returns-in-Fed c = rw (c.in-Fed.is, fed-text (codes "fed") (decimal c.in-Fed.row) refl) (search rules)

pub returns-in-Issued : goal.returns-in-Issued
returns-in-Issued c = rw (c.in-Issued.is, fed-text (codes "issued") (decimal c.in-Issued.request) refl) (search rules)
