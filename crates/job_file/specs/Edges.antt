-- The edges of a job.
use Rattle.std.specs.Prelude.{ℕ, ℤ, pos, List, [], ◌∷◌, codes, int_lt, Result, Ok, Err}
use Rattle.std.specs.Prelude.{if◌then◌else◌}
use Rattle.toml.specs.Data.{Data, Members}
use Rattle.flow_dag.specs.declared.edge.Edge.{Edge}
use Rattle.jobs.specs.declared.func.NodeDef.{NodeDef}
use Rattle.job_file.specs.declared.fault.FormFault.{FormFault}
use Rattle.job_file.specs.declared.fault.FormFault.TheVariants as fault
use Rattle.job_file.specs.declared.fault.Part.TheVariants as part
use Rattle.job_file.specs.Document.{and_then, has_only, optional_whole_at, table_of, text_of_key}
use Rattle.job_file.specs.Names.{node_named}
use Rattle.job_file.specs.Numbers.{nearest}

-- the edge between the nodes of these names
abbrev pub edge_with : List NodeDef → List ℕ → List ℕ → ℤ → Result Edge FormFault
edge_with nodes from to port =
    if int_lt port (pos 0) then Err (fault.Shape part.Port)
    else Ok (record { from = node_named nodes from; port = nearest port; to = node_named nodes to })

-- the edge of a table: its keys, then from, to and port
abbrev pub edge_in : List NodeDef → Members → Result Edge FormFault
edge_in nodes ms =
    if has_only (codes "from" ∷ codes "to" ∷ codes "port" ∷ []) [] ms then
    and_then (text_of_key (codes "from") part.From ms) (λ from.
    and_then (text_of_key (codes "to") part.To ms) (λ to.
    and_then (optional_whole_at (codes "port") part.Port (pos 0) ms) (edge_with nodes from to)))
    else Err (fault.Shape part.Unknown)

-- the edge that a value spells, which has to be a table
abbrev pub edge_of : List NodeDef → Data → Result Edge FormFault
edge_of nodes d = and_then (table_of part.Edge d) (edge_in nodes)
