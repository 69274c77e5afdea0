use Rattle.std.proofs.Common.{◌≡◌}
use Rattle.std.specs.FinMap.{empty}
use Rattle.toml.specs.View.{members_view, table_view}
use Rattle.job_file.specs.Tables.{entries_onto}
use Rattle.job_file.proofs.tables.read_entries.Given as goal

abbrev pub invariant-loop-key : goal.invariant-loop-key
invariant-loop-key l = record {
  can_next : (goal.iterator-loop-key).can_next l.key-iterator;
  is_finite : (goal.iterator-loop-key).is_finite l.key-iterator;
  left : entries_onto empty (table_view l.members) ≡ entries_onto l.entries (members_view l.key-iterator);
}
