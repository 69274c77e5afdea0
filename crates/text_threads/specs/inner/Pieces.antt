-- The records that pieces of a text stand for.
use Rattle.std.specs.Prelude.{ℕ, List, [], ◌∷◌, map}
use Rattle.std.specs.FinMap.{entries}
use Rattle.std.specs.List.{flat_map}
use Rattle.sink_journal.specs.Alerts.{header, layout, sink_alerts}
use Rattle.sink_journal.specs.Audit.{audit_header, entry_fields, feed_fields, refused_fields}
use Rattle.sink_journal.specs.Audit.{state_fields}
use Rattle.text_threads.specs.declared.piece.Piece.{Piece}
use Rattle.text_threads.specs.declared.piece.Piece.TheVariants as piece

-- the records of a piece
abbrev pub piece_records : Piece → List (List (List ℕ))
piece_records (piece.AlertsHeader job) = header job.now.columns ∷ []
piece_records (piece.Shown columns name listed steps) =
    sink_alerts name.now (layout columns.now listed.now) steps.now
piece_records piece.AuditHeader = audit_header ∷ []
piece_records (piece.Refused refused) = map refused_fields refused.now
piece_records (piece.Fed feeds) = map feed_fields feeds.now
piece_records (piece.Steps node place steps) = map (entry_fields node.now place) steps.now
piece_records (piece.Counts node place state) =
    map (state_fields node.now place) (entries state.now)

-- the records of pieces, in order
abbrev pub pieces_records : List Piece → List (List (List ℕ))
pieces_records pieces = flat_map piece_records pieces
