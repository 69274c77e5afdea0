use Rattle.std.proofs.Common.{◌≡◌, ◌++◌, map}
use Rattle.std.specs.Vec.Iter.{into_iter_items}
use Rattle.flow_replay.specs.inner.SoFar.{counts_of, journal_of}
use Rattle.flow_replay.proofs.executor.left_by.Given as goal

abbrev pub invariant-loop-run : goal.invariant-loop-run
invariant-loop-run l = record {
  may : (goal.iterator-loop-run).can_next l.run-iterator;
  finite : (goal.iterator-loop-run).is_finite l.run-iterator;
  feeds : l.left.feeds ≡ l.fn.feeds;
  journals : l.left.journals ++ map journal_of (into_iter_items l.run-iterator) ≡
      map journal_of l.fn.runs.items;
  states : l.left.states ++ map counts_of (into_iter_items l.run-iterator)
      ≡ map counts_of l.fn.runs.items;
}
