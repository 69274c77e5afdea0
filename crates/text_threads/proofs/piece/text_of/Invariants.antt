use Rattle.std.proofs.Common.{◌≡◌, ◌++◌, drop}
use Rattle.sink_journal.specs.Records.{records_text}
use Rattle.text_threads.specs.inner.Pieces.{pieces_records}
use Rattle.text_threads.proofs.piece.text_of.Given as goal

abbrev pub invariant-loop-piece : goal.invariant-loop-piece
invariant-loop-piece l =
    l.text ++ records_text (pieces_records (drop l.piece-index l.pieces))
    ≡ records_text (pieces_records l.pieces)
