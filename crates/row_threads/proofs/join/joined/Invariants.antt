use Rattle.std.proofs.Common.{◌≡◌, ◌++◌, ◌+◌, length}
use Rattle.std.specs.List.{flat_map, list_all}
use Rattle.std.specs.Vec.Iter.{into_iter_items, into_iter_len}
use Rattle.row_threads.specs.inner.Joined.{is_sound, numbered_from, rows_in}
use Rattle.row_threads.proofs.join.joined.Given as goal

-- the rows of the reads that are left, numbered on after those that were appended
abbrev pub invariant-loop-read : goal.invariant-loop-read
invariant-loop-read l = record {
  may : (goal.iterator-loop-read).can_next l.read-iterator;
  finite : (goal.iterator-loop-read).is_finite l.read-iterator;
  counted : into_iter_len l.read-iterator ≡ length (into_iter_items l.read-iterator);
  sound : list_all is_sound (into_iter_items l.read-iterator)
      ≡ list_all is_sound l.fn.reads.items;
  whole : l.rows
      ++ numbered_from (length l.rows + 1) (flat_map rows_in (into_iter_items l.read-iterator))
      ≡ numbered_from 1 (flat_map rows_in l.fn.reads.items);
}
