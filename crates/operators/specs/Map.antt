-- What a map makes of a tuple.
use Rattle.std.specs.Prelude.{List, [], ◌∷◌}
use Rattle.tuple_trace.specs.declared.tuple.Tuple.{Tuple}
use Rattle.tuple_trace.specs.declared.tuple.Visit.{Visit}
use Rattle.jobs.specs.declared.column.Column.{Column}
use Rattle.jobs.specs.declared.func.Step.{Step}
use Rattle.operators.specs.declared.output.Output.{Output}
use Rattle.operators.specs.Arithmetic.{after_steps}
use Rattle.operators.specs.Sent.{sent, with_fields}

-- a map: the fields are those after its steps
abbrev pub mapped : List Column → Visit → List Step → Tuple → List Output
mapped columns visit steps tuple =
    sent visit 0 (with_fields (after_steps columns tuple.fields steps) tuple) ∷ []
