-- The tables of a job.
use Rattle.std.specs.Prelude.{ℕ, List, [], Result, Ok, Err, if◌then◌else◌}
use Rattle.std.specs.FinMap.{empty, insert}
use Rattle.toml.specs.Data.{Data, Members, no_members, member}
use Rattle.tuple_trace.specs.declared.value.Value.{Value}
use Rattle.keyed_state.specs.TextMap.{TextMapOf}
use Rattle.jobs.specs.declared.table.Table.{Table}
use Rattle.job_file.specs.declared.fault.FormFault.{FormFault}
use Rattle.job_file.specs.declared.fault.FormFault.TheVariants as fault
use Rattle.job_file.specs.declared.fault.Part.TheVariants as part
use Rattle.job_file.specs.Document.{and_then, item_before, table_of}
use Rattle.job_file.specs.Literals.{literal_of}
use Rattle.job_file.specs.Names.{is_name}

-- a map with these entries besides its own
unfoldable pub entries_onto : TextMapOf Value → Members → Result (TextMapOf Value) FormFault
entries_onto entries no_members = Ok entries
entries_onto entries (member key d ms) =
    and_then (literal_of part.Tables d) (λ value. entries_onto (insert entries key value) ms)

-- the table with this name and these entries
abbrev pub table_with : List ℕ → TextMapOf Value → Result Table FormFault
table_with name entries = Ok (record { name = name; entries = entries })

-- the table of this name
abbrev pub named_table : List ℕ → Data → Result Table FormFault
named_table name d =
    if is_name name
    then and_then (table_of part.Tables d)
    (λ ms. and_then (entries_onto empty ms) (table_with name))
    else Err (fault.Shape part.Tables)

-- all tables, in the order of the keys
unfoldable pub tables_of : Members → Result (List Table) FormFault
tables_of no_members = Ok []
tables_of (member name d ms) = item_before (named_table name d) (tables_of ms)
