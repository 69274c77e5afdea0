use Rattle.std.proofs.Common.{◌≡◌, ◌++◌, ◌+◌, length}
use Rattle.std.specs.Vec.Iter.{into_iter_items, into_iter_len}
use Rattle.row_threads.specs.inner.Joined.{numbered_from}
use Rattle.row_threads.proofs.join.push_all.Given as goal

-- the rows that are left, numbered on after those that were appended
abbrev pub invariant-loop-row : goal.invariant-loop-row
invariant-loop-row l = record {
  may : (goal.iterator-loop-row).can_next l.row-iterator;
  finite : (goal.iterator-loop-row).is_finite l.row-iterator;
  counted : into_iter_len l.row-iterator ≡ length (into_iter_items l.row-iterator);
  whole : l.rows ++ numbered_from (length l.rows + 1) (into_iter_items l.row-iterator)
      ≡ l.fn.rows ++ numbered_from (length l.fn.rows + 1) l.fn.more;
}
