-- What a clamp makes of a tuple.
use Rattle.std.specs.Prelude.{ℤ, List, [], ◌∷◌, int_lt, if◌then◌else◌}
use Rattle.tuple_trace.specs.declared.tuple.Tuple.{Tuple}
use Rattle.tuple_trace.specs.declared.tuple.Visit.{Visit}
use Rattle.tuple_trace.specs.declared.value.Value.TheVariants as value
use Rattle.jobs.specs.declared.column.Column.{Column}
use Rattle.jobs.specs.declared.func.ClampBy.{ClampBy}
use Rattle.operators.specs.declared.output.Output.{Output}
use Rattle.operators.specs.Fields.{number_at, written_at}
use Rattle.operators.specs.Sent.{sent, with_fields}

-- a number brought between two
abbrev pub between : ℤ → ℤ → ℤ → ℤ
between low high number =
    if int_lt number low then low else (if int_lt high number then high else number)

-- the number of the column, brought between the two numbers of the clamp
abbrev pub clamped_number : List Column → ClampBy → Tuple → ℤ
clamped_number columns clamp tuple =
    between clamp.low clamp.high (number_at columns tuple.fields clamp.on)

-- a clamp: a column is brought between two numbers
abbrev pub clamped : List Column → Visit → ClampBy → Tuple → List Output
clamped columns visit clamp tuple =
    let number = value.Num (clamped_number columns clamp tuple) in
    sent visit 0 (with_fields (written_at columns tuple.fields clamp.on number) tuple) ∷ []
