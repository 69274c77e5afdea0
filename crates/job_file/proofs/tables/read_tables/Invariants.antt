use Rattle.std.proofs.Common.{◌≡◌}
use Rattle.toml.specs.View.{members_view, table_view}
use Rattle.job_file.specs.Tables.{tables_of}
use Rattle.job_file.proofs.ItemLemmas.{after}
use Rattle.job_file.proofs.tables.read_tables.Given as goal

abbrev pub invariant-loop-name : goal.invariant-loop-name
invariant-loop-name l = record {
  can_next : (goal.iterator-loop-name).can_next l.name-iterator;
  is_finite : (goal.iterator-loop-name).is_finite l.name-iterator;
  left : tables_of (table_view l.members) ≡ after l.list (tables_of (members_view l.name-iterator));
}
