use Rattle.std.proofs.Common.{◌≡◌, ◌++◌, length}
use Rattle.std.specs.Vec.Iter.{into_iter_items, into_iter_len}
use Rattle.text_threads.specs.inner.Shares.{are_made, joined as joined_of}
use Rattle.text_threads.proofs.team.joined.Given as goal

abbrev pub invariant-loop-text : goal.invariant-loop-text
invariant-loop-text l = record {
  may : goal.iterator-loop-text.can_next l.text-iterator;
  finite : goal.iterator-loop-text.is_finite l.text-iterator;
  counted : into_iter_len l.text-iterator ≡ length (into_iter_items l.text-iterator);
  made : are_made (into_iter_items l.text-iterator) ≡ are_made l.fn.texts.items;
  whole :
      l.whole ++ joined_of (into_iter_items l.text-iterator) ≡ joined_of l.fn.texts.items;
}
