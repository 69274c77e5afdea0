-- What an enrich makes of a tuple.
use Rattle.std.specs.Prelude.{ℕ, List, [], ◌∷◌, Option, Some, None, slice_get, unwrap_or}
use Rattle.std.specs.FinMap as finite
use Rattle.tuple_trace.specs.declared.tuple.Tuple.{Tuple}
use Rattle.tuple_trace.specs.declared.tuple.Visit.{Visit}
use Rattle.tuple_trace.specs.declared.value.Value.{Value}
use Rattle.jobs.specs.declared.column.Column.{Column}
use Rattle.jobs.specs.declared.func.Lookup.{Lookup}
use Rattle.jobs.specs.declared.table.Table.{Table}
use Rattle.operators.specs.declared.output.Output.{Output}
use Rattle.operators.specs.Fields.{text_at, written_at}
use Rattle.operators.specs.Sent.{sent, with_fields}

-- what a table holds for a text, and `other` where it holds nothing, or where there is no table
abbrev pub looked_up : Option Table → List ℕ → Value → Value
looked_up None key other = other
looked_up (Some table) key other = unwrap_or (finite.get table.entries key) other

-- the fields after a look-up: a column becomes what the table holds for the key
abbrev pub enriched_fields : List Column → List Table → Lookup → List Value → List Value
enriched_fields columns tables lookup fields =
    written_at columns fields lookup.into
    (looked_up (slice_get tables lookup.table) (text_at columns fields lookup.key) lookup.other)

-- an enrich: the fields are those after its look-up
abbrev pub enriched : List Column → List Table → Visit → Lookup → Tuple → List Output
enriched columns tables visit lookup tuple =
    sent visit 0 (with_fields (enriched_fields columns tables lookup tuple.fields) tuple) ∷ []
