-- What an audit keeps of a journal.
use Rattle.std.specs.Prelude.{List, map}
use Rattle.sink_journal.specs.declared.journal.Entry.{Entry}
use Rattle.sink_journal.specs.declared.journal.Entry.TheVariants as entry
use Rattle.audit_laws.specs.declared.audit.AuditEntry.{AuditEntry}
use Rattle.audit_laws.specs.declared.audit.AuditEntry.TheVariants as kept

-- An audit keeps of a tuple its row and its births, and of everything else all.
abbrev pub trim : Entry → AuditEntry
trim (entry.Met lane tuple) = kept.Met lane tuple.row tuple.birth
trim (entry.Marked lane request) = kept.Marked lane request
trim (entry.Turned request) = kept.Turned request
trim (entry.Ended lane) = kept.Ended lane

-- What an audit keeps of each entry of a journal.
abbrev pub trimmed : List Entry → List AuditEntry
trimmed journal = map trim journal
