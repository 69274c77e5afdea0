-- What a count makes of a tuple, and of its counts.
use Rattle.std.specs.Prelude.{ℤ, List, [], ◌∷◌}
use Rattle.tuple_trace.specs.declared.tuple.Tuple.{Tuple}
use Rattle.tuple_trace.specs.declared.tuple.Visit.{Visit}
use Rattle.tuple_trace.specs.declared.value.Value.TheVariants as value
use Rattle.keyed_state.specs.Counts.{Counts, raised}
use Rattle.jobs.specs.declared.column.Column.{Column}
use Rattle.jobs.specs.declared.func.CountBy.{CountBy}
use Rattle.operators.specs.declared.output.Output.{Output}
use Rattle.operators.specs.Arithmetic.{number_of}
use Rattle.operators.specs.Fields.{text_at, written_at}
use Rattle.operators.specs.Sent.{sent, with_fields}

-- the count of a tuple's key once the tuple is counted
abbrev pub count_after : List Column → CountBy → Counts → Tuple → ℤ
count_after columns count counts tuple =
    raised counts (text_at columns tuple.fields count.key)
    (number_of columns tuple.fields count.add)

-- a count: a column becomes the count of the key
abbrev pub counted : List Column → Visit → CountBy → Counts → Tuple → List Output
counted columns visit count counts tuple =
    let sum = count_after columns count counts tuple in
    sent visit 0
    (with_fields (written_at columns tuple.fields count.into (value.Num sum)) tuple) ∷ []
