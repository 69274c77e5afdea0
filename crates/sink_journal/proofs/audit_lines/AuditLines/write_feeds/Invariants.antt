use Rattle.std.proofs.Common.{◌≡◌, ◌++◌, drop, map}
use Rattle.sink_journal.specs.Audit.{feed_fields}
use Rattle.sink_journal.specs.Records.{records_text}
use Rattle.sink_journal.proofs.audit_lines.AuditLines.write_feeds.Given as goal

abbrev pub invariant-loop-feed : goal.invariant-loop-feed
invariant-loop-feed l = l.self ++ records_text (map feed_fields (drop l.feed-index l.feeds)) ≡ l.fn.self ++ records_text (map feed_fields l.feeds)
