-- A trimmed journal as the law of journals reads it.
use Rattle.std.specs.Prelude.{ℕ, ◌+◌, ◌==◌, List, [], ◌∷◌, map, if◌then◌else◌}
use Rattle.sink_journal.specs.declared.journal.Entry.{Entry}
use Rattle.sink_journal.specs.declared.journal.Entry.TheVariants as entry
use Rattle.sink_journal.specs.declared.journal.Feed.{Feed}
use Rattle.sink_journal.specs.declared.journal.Feed.TheVariants as feed
use Rattle.tuple_trace.specs.declared.tuple.Tuple.{Tuple}
use Rattle.audit_laws.specs.declared.audit.AuditEntry.{AuditEntry}
use Rattle.audit_laws.specs.declared.audit.AuditEntry.TheVariants as kept

-- How many requests a feed has issued when it feeds the row, if it had issued this number before.
-- It is 0 if the feed doesn't feed the row.
abbrev pub issued_before : ℕ → ℕ → List Feed → ℕ
issued_before row issued [] = 0
issued_before row issued (feed.Fed number ∷ more) =
    if number == row then issued else issued_before row issued more
issued_before row issued (feed.Issued request ∷ more) = issued_before row (issued + 1) more
issued_before row issued (feed.Stopped ∷ more) = issued_before row issued more

-- A tuple of which only its row, its births and the number of requests issued before are known. The
-- feed follows so many issued requests.
abbrev pub known : ℕ → List Feed → ℕ → List ℕ → Tuple
known issued feeds row birth = record {
  row = row;
  birth = birth;
  issued = issued_before row issued feeds;
  fields = [];
  trace = [];
}

-- The entry with such a tuple. The law of journals reads no more of a tuple.
abbrev pub draft : ℕ → List Feed → AuditEntry → Entry
draft issued feeds (kept.Met lane row birth) = entry.Met lane (known issued feeds row birth)
draft issued feeds (kept.Marked lane request) = entry.Marked lane request
draft issued feeds (kept.Turned request) = entry.Turned request
draft issued feeds (kept.Ended lane) = entry.Ended lane

-- The journal of these kept entries, with such tuples.
abbrev pub drafted : ℕ → List Feed → List AuditEntry → List Entry
drafted issued feeds journal = map (draft issued feeds) journal
