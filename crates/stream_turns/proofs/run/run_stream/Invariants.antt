use Rattle.std.proofs.Common.{◌≡◌, ℕ, List, None}
use Rattle.tuple_trace.specs.declared.row.Row.{Row}
use Rattle.stream_run.specs.Growing.{Goes}
use Rattle.stream_run.specs.Standing.{Stands}
use Rattle.stream_turns.specs.Taken.{HasGoneOn, HasReadText, at}
use Rattle.stream_turns.specs.Turns.{CanTakeTurn}
use Rattle.stream_turns.proofs.run.run_stream.Given as goal

abbrev pub invariant-loop : goal.invariant-loop
invariant-loop g l = record {
  ready : CanTakeTurn l.call.source l.call.every l.stream l.inputs;
  closed : (g.S.Shelf.state l.shelf).draft ≡ None;
  rows : List Row;
  goes : Goes l.call.names rows l.fn.stream (g.S.Shelf.state l.fn.shelf).files l.stream
      (g.S.Shelf.state l.shelf).files;
  stands : Stands l.call.behind l.call.names l.stream (g.S.Shelf.state l.shelf).files;
  taken : (skipped : ℕ) (text : List ℕ)
      → HasReadText skipped text (at l.fn.stream (g.S.Shelf.state l.fn.shelf).files l.fn.inputs
      (g.T.Tap.state l.fn.tap))
      → HasGoneOn l.call.names skipped text (at l.fn.stream (g.S.Shelf.state l.fn.shelf).files
      l.fn.inputs (g.T.Tap.state l.fn.tap))
      (at l.stream (g.S.Shelf.state l.shelf).files l.inputs (g.T.Tap.state l.tap));
  writes : (g.S.Shelf.state l.shelf).faults.writes ≡ (g.S.Shelf.state l.fn.shelf).faults.writes;
}
