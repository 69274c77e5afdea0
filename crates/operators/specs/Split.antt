-- What a split makes of a tuple.
use Rattle.std.specs.Prelude.{ℕ, List, map, take}
use Rattle.std.specs.List.{enumerate_from}
use Rattle.tuple_trace.specs.declared.tuple.Tuple.{Tuple}
use Rattle.tuple_trace.specs.declared.tuple.Visit.{Visit}
use Rattle.tuple_trace.specs.declared.value.Value.TheVariants as value
use Rattle.jobs.specs.declared.column.Column.{Column}
use Rattle.jobs.specs.declared.func.SplitBy.{SplitBy}
use Rattle.operators.specs.declared.output.Output.{Output}
use Rattle.operators.specs.Fields.{text_at, written_at}
use Rattle.operators.specs.Pieces.{pieces}
use Rattle.operators.specs.Sent.{born, sent, with_fields}

-- the tuple of the piece with this number
abbrev pub piece_sent : List Column → Visit → ℕ → Tuple → ℕ × List ℕ → Output
piece_sent columns visit on tuple piece =
    sent visit 0
    (born piece.0 (with_fields (written_at columns tuple.fields on (value.Text piece.1)) tuple))

-- a split: each of the first pieces of a column makes a tuple, whose last birth is the number of
-- the piece
abbrev pub split_up : List Column → Visit → SplitBy → Tuple → List Output
split_up columns visit split tuple =
    let parts = take split.most (pieces split.by (text_at columns tuple.fields split.on)) in
    map (piece_sent columns visit split.on tuple) (enumerate_from 0 parts)
