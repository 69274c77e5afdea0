-- The layout of a job file.
use Rattle.std.specs.Prelude.{List, [], ◌∷◌, codes, Result, Ok, Err, if◌then◌else◌}
use Rattle.toml.specs.Data.{Members, get_member}
use Rattle.flow_dag.specs.declared.edge.Edge.{Edge}
use Rattle.jobs.specs.declared.column.Column.{Column}
use Rattle.jobs.specs.declared.func.NodeDef.{NodeDef}
use Rattle.jobs.specs.declared.table.Table.{Table}
use Rattle.jobs.specs.JobView.{JobView, job_view_as}
use Rattle.job_file.specs.declared.fault.FormFault.{FormFault}
use Rattle.job_file.specs.declared.fault.FormFault.TheVariants as fault
use Rattle.job_file.specs.declared.fault.Part.TheVariants as part
use Rattle.job_file.specs.Columns.{column_of}
use Rattle.job_file.specs.Document.{all_of, and_then, has_only, items_of_key, optional_items_at}
use Rattle.job_file.specs.Document.{read_or, table_of}
use Rattle.job_file.specs.Edges.{edge_of}
use Rattle.job_file.specs.Nodes.{node_of}
use Rattle.job_file.specs.Tables.{tables_of}

-- the columns of a file
abbrev pub columns_in : Members → Result (List Column) FormFault
columns_in ms = and_then (items_of_key (codes "columns") part.Columns ms) (all_of column_of)

-- the tables of a file: none if it has no such key
abbrev pub tables_in : Members → Result (List Table) FormFault
tables_in ms =
    read_or [] (λ d. and_then (table_of part.Tables d) tables_of) (get_member (codes "tables") ms)

-- the nodes of a file
abbrev pub nodes_in : List Column → List Table → Members → Result (List NodeDef) FormFault
nodes_in columns tables ms =
    and_then (items_of_key (codes "node") part.Node ms) (all_of (node_of columns tables))

-- the edges of a file: none if it has no such key
abbrev pub edges_in : List NodeDef → Members → Result (List Edge) FormFault
edges_in nodes ms =
    and_then (optional_items_at (codes "edge") part.Edge ms) (all_of (edge_of nodes))

-- the job of a table: first its keys, then its columns, tables, nodes and edges
unfoldable pub layout_of : Members → Result JobView FormFault
layout_of ms =
    if has_only (codes "columns" ∷ codes "tables" ∷ codes "node" ∷ codes "edge" ∷ []) [] ms then
    and_then (columns_in ms) (λ columns.
    and_then (tables_in ms) (λ tables.
    and_then (nodes_in columns tables ms) (λ nodes.
    and_then (edges_in nodes ms) (λ edges. Ok (job_view_as columns nodes edges tables)))))
    else Err (fault.Shape part.Unknown)
