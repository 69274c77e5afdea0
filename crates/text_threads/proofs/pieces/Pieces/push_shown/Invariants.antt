use Rattle.std.proofs.Common.{◌≡◌, ◌++◌}
use Rattle.std.specs.Slice.Iter.{chunks_rest, chunks_size}
use Rattle.sink_journal.specs.Alerts.{layout, sink_alerts}
use Rattle.text_threads.proofs.pieces.Pieces.push_shown.Given as goal

abbrev pub invariant-loop-part : goal.invariant-loop-part
invariant-loop-part l = record {
  size : chunks_size l.part-iterator ≡ 4096;
  pieces :
      l.self ++ sink_alerts l.name (layout l.columns l.listed) (chunks_rest l.part-iterator)
      ≡ l.fn.self ++ sink_alerts l.name (layout l.columns l.listed) l.steps;
}
