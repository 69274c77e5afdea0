use Rattle.std.proofs.Common.{◌≡◌, ◌++◌, map}
use Rattle.std.specs.Slice.Iter.{chunks_rest, chunks_size}
use Rattle.sink_journal.specs.Audit.{entry_fields}
use Rattle.text_threads.proofs.pieces.Pieces.push_steps.Given as goal

abbrev pub invariant-loop-part : goal.invariant-loop-part
invariant-loop-part l = record {
  size : chunks_size l.part-iterator ≡ 4096;
  pieces :
      l.self ++ map (entry_fields l.node l.place) (chunks_rest l.part-iterator)
      ≡ l.fn.self ++ map (entry_fields l.node l.place) l.steps;
}
