-- What a dedupe makes of a tuple, and of its counts.
use Rattle.std.specs.Prelude.{ℤ, pos, List, [], ◌∷◌, int_le, if◌then◌else◌}
use Rattle.tuple_trace.specs.declared.tuple.Tuple.{Tuple}
use Rattle.tuple_trace.specs.declared.tuple.Visit.{Visit}
use Rattle.keyed_state.specs.Counts.{Counts, raised}
use Rattle.jobs.specs.declared.column.Column.{Column}
use Rattle.jobs.specs.declared.func.DedupeBy.{DedupeBy}
use Rattle.operators.specs.declared.output.Output.{Output}
use Rattle.operators.specs.Fields.{text_at}
use Rattle.operators.specs.Sent.{sent}

-- how many tuples of the tuple's key the node has met once it has met this one
abbrev pub met_after : List Column → DedupeBy → Counts → Tuple → ℤ
met_after columns dedupe counts tuple =
    raised counts (text_at columns tuple.fields dedupe.key) (pos 1)

-- a dedupe: the first tuple of a key goes on
abbrev pub deduped : List Column → Visit → DedupeBy → Counts → Tuple → List Output
deduped columns visit dedupe counts tuple =
    if int_le (met_after columns dedupe counts tuple) (pos 1) then sent visit 0 tuple ∷ [] else []
