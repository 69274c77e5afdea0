-- The nodes of a job.
use Rattle.std.specs.Prelude.{ℕ, ℤ, pos, List, [], ◌∷◌, codes, nat_lt, Result, Ok, Err}
use Rattle.std.specs.Prelude.{if◌then◌else◌}
use Rattle.toml.specs.Data.{Data, Members}
use Rattle.jobs.specs.Nodes.{fan_out}
use Rattle.jobs.specs.declared.column.Column.{Column}
use Rattle.jobs.specs.declared.func.Func.{Func}
use Rattle.jobs.specs.declared.func.NodeDef.{NodeDef}
use Rattle.jobs.specs.declared.kind.Kind.{Kind}
use Rattle.jobs.specs.declared.table.Table.{Table}
use Rattle.jobs.specs.Kinds.{are_free, row_of}
use Rattle.job_file.specs.declared.fault.FormFault.{FormFault}
use Rattle.job_file.specs.declared.fault.FormFault.TheVariants as fault
use Rattle.job_file.specs.declared.fault.Part.TheVariants as part
use Rattle.job_file.specs.Document.{and_then, optional_whole_at, table_of, text_of_key}
use Rattle.job_file.specs.Funcs.{func_in}
use Rattle.job_file.specs.Kinds.{kind_in}
use Rattle.job_file.specs.Names.{is_name}
use Rattle.job_file.specs.Numbers.{nearest}

-- the keys of a node beside those of its function: workers if it may have several, and a roof if
-- its kind is free
abbrev pub beside_of : Kind → List (List ℕ)
beside_of kind =
    if are_free (row_of kind).followers
    then codes "name" ∷ codes "kind" ∷ codes "workers" ∷ codes "roof" ∷ []
    else if nat_lt 1 (row_of kind).most_workers
    then codes "name" ∷ codes "kind" ∷ codes "workers" ∷ []
    else codes "name" ∷ codes "kind" ∷ []

-- the name of a node
abbrev pub name_in : Members → Result (List ℕ) FormFault
name_in ms =
    and_then (text_of_key (codes "name") part.Name ms)
    (λ name. if is_name name then Ok name else Err (fault.Shape part.Name))

-- the node with these parts
abbrev pub node_with : List ℕ → Func → ℤ → ℤ → Result NodeDef FormFault
node_with name f workers roof =
    Ok (record { name = name; func = f; workers = nearest workers; roof = nearest roof })

-- the roof of a node with this function: the fan-out of the function where none is written
abbrev pub roof_in : Func → Members → Result ℤ FormFault
roof_in f ms = optional_whole_at (codes "roof") part.Roof (pos (fan_out f)) ms

-- the node of a table: its name, its kind, its function, its workers and its roof
abbrev pub node_in : List Column → List Table → Members → Result NodeDef FormFault
node_in columns tables ms =
    and_then (name_in ms) (λ name.
    and_then (kind_in ms) (λ k.
    and_then (func_in columns tables (beside_of k) k ms) (λ f.
    and_then (optional_whole_at (codes "workers") part.Workers (pos 1) ms) (λ workers.
    and_then (roof_in f ms) (node_with name f workers)))))

-- the node that a value spells, which has to be a table
abbrev pub node_of : List Column → List Table → Data → Result NodeDef FormFault
node_of columns tables d = and_then (table_of part.Node d) (node_in columns tables)
